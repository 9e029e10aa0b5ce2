-- Octets that a line moves, one call after the other, and what is left of a piece.
use Rattle.std.specs.Prelude.{◌≡◌, ℕ, ◌+◌, ◌-◌, ◌≤◌, List, [], ◌++◌, take, drop, length, Option, Some, None, Ok}
use Rattle.std.proofs.Common.{refl, sym, ◌∙◌, ap, subst, append_assoc, append-nil, arith}
use Rattle.std.proofs.Math.Seq.{take-add, take-length}
use Rattle.std.proofs.lemmas.List.{length-drop}
use Rattle.ua_channel.specs.Line.{Traffic, MovesTraffic, WriteTakes, IfTrafficKnown}

-- ---- a piece

-- what is left of a piece
abbrev pub rest_of : List ℕ → ℕ → List ℕ
rest_of piece taken = take (length piece - taken) (drop taken piece)

pub rest-is : (piece : List ℕ) (taken : ℕ) → rest_of piece taken ≡ drop taken piece
rest-is piece taken = ap (λ (k : ℕ). take k (drop taken piece)) (sym (length-drop taken piece)) ∙ take-length (drop taken piece)

pub rest-length : (piece : List ℕ) (taken : ℕ) → length (rest_of piece taken) ≡ length piece - taken
rest-length piece taken = ap length (rest-is piece taken) ∙ length-drop taken piece

pub joined : (octets piece : List ℕ) (m n : ℕ) → (octets ++ take m piece) ++ take n (rest_of piece m) ≡ octets ++ take (m + n) piece
joined octets piece m n =
    ap (λ (z : List ℕ). (octets ++ take m piece) ++ take n z) (rest-is piece m)
    ∙ (append_assoc octets (take m piece) (take n (drop m piece)) ∙ ap (λ (t : List ℕ). octets ++ t) (sym (take-add m n piece)))

less-left : (l m n d : ℕ) → m ≤ l → d ≡ l - m → n ≤ d → m + n ≤ l
less-left l m n d h e k = omega (arith, h, e, k)

pub within-piece : (piece : List ℕ) (taken n : ℕ) → taken ≤ length piece → n ≤ length (rest_of piece taken) → taken + n ≤ length piece
within-piece piece taken n h k = less-left (length piece) taken n (length (rest_of piece taken)) h (rest-length piece taken) k

-- ---- a line

moves-then : (r s r' s' : List ℕ) (a b c : Traffic) → MovesTraffic r s a b → MovesTraffic r' s' b c → MovesTraffic (r ++ r') (s ++ s') a c
moves-then r s r' s' a b c m n = (
  λ rest. ap a.coming (append_assoc s s' rest) ∙ (m.0 (s' ++ rest) ∙ (ap (λ (x : List ℕ). r ++ x) (n.0 rest) ∙ sym (append_assoc r r' (c.coming rest)))),
  n.1 ∙ (ap (λ (x : List ℕ). x ++ s') m.1 ∙ append_assoc a.written s s'),
)

pub told-then : (r s r' s' : List ℕ) (a b c : Option Traffic) → IfTrafficKnown (MovesTraffic r s) a b → IfTrafficKnown (MovesTraffic r' s') b c
    → IfTrafficKnown (MovesTraffic (r ++ r') (s ++ s')) a c
told-then r s r' s' (Some a) (Some b) (Some c) m n = moves-then r s r' s' a b c m n
told-then r s r' s' (Some a) (Some b) None m n = n
told-then r s r' s' (Some a) None c m n = absurd m
told-then r s r' s' None b c m n = subst (λ (o : Option Traffic). IfTrafficKnown (MovesTraffic r' s') o c) m n

pub told-nothing : (a : Option Traffic) → IfTrafficKnown (MovesTraffic [] []) a a
told-nothing (Some t) = (λ rest. refl, sym (append-nil t.written))
told-nothing None = refl

-- ---- one call of a line

pub took : (n : ℕ) (octets : List ℕ) (a b : Option Traffic) → IfTrafficKnown (WriteTakes (Ok n) octets) a b
    → IfTrafficKnown (MovesTraffic [] (take n octets)) a b
took n octets (Some a) (Some b) t = (λ rest. sym (t.1 rest), t.0)
took n octets (Some a) None t = t
took n octets None b t = t

-- more octets are written
pub wrote-more : (octets : List ℕ) (m n : ℕ) (a b c : Option Traffic) → IfTrafficKnown (MovesTraffic [] (take m octets)) a b
    → IfTrafficKnown (WriteTakes (Ok n) (rest_of octets m)) b c → IfTrafficKnown (MovesTraffic [] (take (m + n) octets)) a c
wrote-more octets m n a b c w t =
    subst (λ (x : List ℕ). IfTrafficKnown (MovesTraffic [] x) a c) (joined [] octets m n)
    (told-then [] (take m octets) [] (take n (rest_of octets m)) a b c w (took n (rest_of octets m) b c t))
