-- The titles of messages in their lines.
use Rattle.std.proofs.Common.{◌≡◌, ◌++◌, ℕ, List, append_assoc, refl}

-- a title of two parts, behind the start of its line and before the end of it
pub title_ends : (old front name more end : List ℕ) → ((old ++ (front ++ name)) ++ more) ++ end ≡ old ++ ((front ++ (name ++ more)) ++ end)
title_ends old front name more end = simp append_assoc refl
