-- Refusals for a number, apart from those for a message.
use Rattle.std.proofs.Common.{◌≡◌, ℕ, Bool, true, false, cond, not, ◌↔◌, Option, Some, None, List, [], ◌∷◌, ◌++◌, refl, ◌∙◌, ap}
use Rattle.std.proofs.lemmas.Bool.{and_parts}
use Rattle.ua_chunk.specs.declared.chunk.Chunk.{Chunk}
use Rattle.ua_chunk.specs.declared.fault.AssembleFault.{AssembleFault}
use Rattle.ua_chunk.specs.declared.fault.AssembleFault.TheVariants.{Sequence}
use Rattle.ua_chunk.specs.Refusal.{chunk_refusal, message_refusal, TakesAllChunks, TakesMessages}
use Rattle.ua_chunk.specs.Sequence.{may_follow, ordered}

apart_by : (follows : Bool) (message : Option AssembleFault) → cond (not follows) (Some Sequence) message ≡ None → (follows ≡ true) × (message ≡ None)
apart_by true message e = (refl, e)
apart_by false message e = absurd cc

pub apart : (octets chunks : ℕ) (last : Option ℕ) (cs : List Chunk) (c : Chunk)
    → (chunk_refusal octets chunks last cs c ≡ None) ↔ ((may_follow last c.sequence ≡ true) × (message_refusal octets chunks cs c ≡ None))
apart octets chunks last cs c = (
  λ e. apart_by (may_follow last c.sequence) (message_refusal octets chunks cs c) e,
  λ h. ap (λ b. cond (not b) (Some Sequence) (message_refusal octets chunks cs c)) h.0 ∙ h.1,
)

pub takes_all : (octets chunks : ℕ) (last : Option ℕ) (before cs : List Chunk) → ordered last cs ≡ true → TakesMessages octets chunks before cs
    → TakesAllChunks octets chunks last before cs
takes_all octets chunks last before [] order taken = tt
takes_all octets chunks last before (c ∷ cs) order taken =
    let follow = and_parts (may_follow last c.sequence) (ordered (Some c.sequence) cs) order in
    ((apart octets chunks last before c).1 (follow.0, taken.0), takes_all octets chunks (Some c.sequence) (before ++ c ∷ []) cs follow.1 taken.1)
