-- A reply that was given up is answered as the whole one is: by an abort.
use Rattle.std.proofs.Common.{◌≡◌, inl, inr, ℕ, ◌<◌, ◌≤◌, List, length, Option, Some, None, refl, ◌∙◌, arith}
use Rattle.ua_builtin.specs.declared.status_code.StatusCode.{StatusCode}
use Rattle.ua_chunk.proofs.MostOctets.{most_is}
use Rattle.ua_chunk.specs.Cutting.{cut_refusal, most_octets, IsAtMost}
use Rattle.ua_chunk.specs.declared.fault.CutFault.{CutFault}
use Rattle.ua_chunk.specs.declared.lane.Lane.{Lane}
use Rattle.ua_channel.specs.ServerSends.{IsReply, replied_by}
use Rattle.ua_nodes.specs.Within.{Passes}
use Rattle.ua_server.specs.Reply.{IsBodyWithin}
use Rattle.ua_server.specs.Requests.{code_by}

-- without a limit nothing is given up
pub whole_body : (whole body : List ℕ) → IsBodyWithin None whole body → body ≡ whole
whole_body whole body (inl e) = e
whole_body whole body (inr p) = absurd p.0

pub passes_more : (most : Option ℕ) (n m : ℕ) → n ≤ m → Passes most n → Passes most m
passes_more None n m le p = absurd p
passes_more (Some most) n m le p = omega (arith, le, p)

not_both : (most : Option ℕ) (n : ℕ) → Passes most n → IsAtMost n most → ⊥
not_both None n p w = absurd p
not_both (Some most) n p w = absurd (omega (arith, p, w))

-- what passes the limit is not cut
refused : (lane : Lane) (most : Option ℕ) (b : List ℕ) → 0 < lane.room → most ≡ most_octets lane → Passes most (length b) → cut_refusal lane b ≡ None → ⊥
refused lane most b room is p e = not_both most (length b) p (rw is ((most_is lane b room).0 e))

replied_same : (a b : Option CutFault) (lane : Lane) (body whole : List ℕ) (number id : ℕ) → (a ≡ None → ⊥) → (b ≡ None → ⊥)
    → replied_by a lane body number id ≡ replied_by b lane whole number id
replied_same None b lane body whole number id h k = absurd (h refl)
replied_same (Some f) None lane body whole number id h k = absurd (k refl)
replied_same (Some f) (Some g) lane body whole number id h k = refl

code_same : (a b : Option CutFault) (code : StatusCode) → (a ≡ None → ⊥) → (b ≡ None → ⊥) → code_by a code ≡ code_by b code
code_same None b code h k = absurd (h refl)
code_same (Some f) None code h k = absurd (k refl)
code_same (Some f) (Some g) code h k = refl

-- the reply is that of the whole body
pub same_reply : (lane : Lane) (most : Option ℕ) (whole body : List ℕ) (number id : ℕ) (out : List ℕ) (next : ℕ) → (0 < lane.room) × (most ≡ most_octets lane)
    → IsBodyWithin most whole body → IsReply lane body number id out next → IsReply lane whole number id out next
same_reply lane most whole body number id out next limit (inl e) reply = rw (← e) reply
same_reply lane most whole body number id out next limit (inr p) reply =
    let same = replied_same (cut_refusal lane body) (cut_refusal lane whole) lane body whole number id (refused lane most body limit.0 limit.1 p.0)
    (refused lane most whole limit.0 limit.1 p.1) in
    (reply.0 ∙ rw same, reply.1 ∙ rw same)

-- so is the code that is told of it
pub same_code : (lane : Lane) (most : Option ℕ) (whole body : List ℕ) (code : StatusCode) → (0 < lane.room) × (most ≡ most_octets lane)
    → IsBodyWithin most whole body → code_by (cut_refusal lane body) code ≡ code_by (cut_refusal lane whole) code
same_code lane most whole body code limit (inl e) = rw e
same_code lane most whole body code limit (inr p) =
    code_same (cut_refusal lane body) (cut_refusal lane whole) code (refused lane most body limit.0 limit.1 p.0) (refused lane most whole limit.0 limit.1 p.1)
