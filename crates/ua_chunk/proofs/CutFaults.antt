-- Why a body is not cut, and a body with more bytes behind it.
use Rattle.std.proofs.Common.{◌≡◌, Bool, true, false, cond, Option, Some, None, List, ℕ, ◌++◌, ◌≤◌, ◌∙◌, length, take, replicate, refl, sym, ap, arith}
use Rattle.std.proofs.lemmas.List.{take_all}
use lib.Seq.{take-append_seam}
use Rattle.ua_chunk.specs.declared.fault.CutFault.{CutFault}
use Rattle.ua_chunk.specs.declared.fault.CutFault.TheVariants.{TooManyOctets, TooManyChunks, OutOfMemory}
use Rattle.ua_chunk.specs.declared.lane.Lane.{Lane}
use Rattle.ua_chunk.specs.Cutting.{cut_refusal, pieces, IsCutFor}
use Rattle.ua_chunk.specs.Refusal.{passes}

judged : Bool → Bool → Option CutFault
judged a b = cond a (Some TooManyOctets) (cond b (Some TooManyChunks) None)

starved : (a b : Bool) → Some OutOfMemory ≡ judged a b → judged a b ≡ None
unfolding judged
starved true b e = cc
starved false true e = cc
starved false false e = refl

judged_for : (a b : Bool) (fault : CutFault) → Some fault ≡ judged a b → IsCutFor (judged a b) fault
judged_for a b TooManyOctets e = sym e
judged_for a b TooManyChunks e = sym e
judged_for a b OutOfMemory e = starved a b e

-- a fault that is the reason is one for it
pub refused_for : (lane : Lane) (body : List ℕ) (fault : CutFault) → Some fault ≡ cut_refusal lane body → IsCutFor (cut_refusal lane body) fault
unfolding judged
refused_for lane body fault e = judged_for (passes lane.octets (length body)) (passes lane.chunks (length (pieces lane.room body))) fault e

-- the front of bytes that others follow
pub kept_front : (len size n : ℕ) (body : List ℕ) → len ≡ length body → len ≤ size → take len (take size body ++ replicate n 0) ≡ body
kept_front len size n body is le =
    ap (λ (t : List ℕ). take len (t ++ replicate n 0)) (take_all size body (omega arith))
    ∙ ap (λ (k : ℕ). take k (body ++ replicate n 0)) is
    ∙ take-append_seam body (replicate n 0)
