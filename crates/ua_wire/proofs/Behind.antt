-- What a read left is an end of what stood there.
use Rattle.std.specs.Prelude.{ℕ, List, [], ◌++◌}
use Rattle.std.proofs.Common.{refl, sym, ◌∙◌, ap, append_assoc}
use Rattle.ua_wire.specs.Format.{Behind, StaysBehind}

pub behind_then : (a b c : List ℕ) → Behind a b → Behind b c → Behind a c
behind_then a b c p q = record {
  taken = p.taken ++ q.taken;
  parts = p.parts ∙ ap (λ (t : List ℕ). p.taken ++ t) q.parts
      ∙ sym (append_assoc p.taken q.taken c);
}

pub behind_is : (old new : List ℕ) → StaysBehind old new → Behind old new
behind_is old new h = h old (record { taken = []; parts = refl })

pub stays_behind : (old new : List ℕ) → Behind old new → StaysBehind old new
stays_behind old new h start s = behind_then start old new s h
