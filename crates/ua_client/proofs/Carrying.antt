-- What was carried, one call behind another.
use Rattle.std.specs.Prelude.{◌≡◌, ℕ, ◌+◌, ◌-◌, ◌≤◌, ◌<◌, List, [], ◌++◌, length, take, drop, Option, Some, None}
use Rattle.std.proofs.Common.{refl, sym, ◌∙◌, ap, subst, append_assoc, append-nil, arith}
use Rattle.std.proofs.Math.Seq.{take-add}
use Rattle.std.proofs.lemmas.List.{length-append, length-drop, take-append-drop}
use Rattle.ua_wire.specs.Format.{Extends}
use Rattle.ua_channel.specs.Line.{Traffic, MovesTraffic, IfTrafficKnown}
use Rattle.ua_client.specs.Carried.{Carries, IsPart, WritesFront}

-- ---- nothing, and one behind another

pub carried-nothing : (t : Option Traffic) → IfTrafficKnown (Carries [] []) t t
carried-nothing None = refl
carried-nothing (Some t) = record { coming = λ rest. refl; written = sym (append-nil t.written) }

pub carried-then : (got sent more out : List ℕ) (a b c : Option Traffic) → IfTrafficKnown (Carries got sent) a b → IfTrafficKnown (Carries more out) b c
    → IfTrafficKnown (Carries (got ++ more) (sent ++ out)) a c
carried-then got sent more out (Some a) (Some b) (Some c) h k = record {
  coming = λ rest. ap a.coming (append_assoc sent out rest)
      ∙ (h.coming (out ++ rest) ∙ (ap (λ (t : List ℕ). got ++ t) (k.coming rest) ∙ sym (append_assoc got more (c.coming rest))));
  written = k.written ∙ (ap (λ (t : List ℕ). t ++ out) h.written ∙ append_assoc a.written sent out);
}
carried-then got sent more out (Some a) (Some b) None h k = absurd k
carried-then got sent more out (Some a) None c h k = absurd h
carried-then got sent more out None (Some b) c h k = absurd cc
carried-then got sent more out None None c h k = k

-- the same octets, named in another way
pub carried-as : (got sent got' sent' : List ℕ) (a b : Option Traffic) → got ≡ got' → sent ≡ sent' → IfTrafficKnown (Carries got sent) a b
    → IfTrafficKnown (Carries got' sent') a b
carried-as got sent got' sent' a b p q h = subst (λ (s : List ℕ). IfTrafficKnown (Carries got' s) a b) q
    (subst (λ (g : List ℕ). IfTrafficKnown (Carries g sent) a b) p h)

-- ---- a whole write, step by step

-- of these octets so many are written
pub record Written (octets : List ℕ) (at : ℕ) (before after : Option Traffic) : Type 0 where
  pub within : at ≤ length octets
  pub carried : IfTrafficKnown (Carries [] (take at octets)) before after

front-of : (sent octets : List ℕ) (a b : Option Traffic) → Extends sent octets → length sent < length octets → IfTrafficKnown (Carries [] sent) a b
    → IfTrafficKnown (WritesFront octets) a b
front-of sent octets (Some a) (Some b) front fewer h = record { sent = sent; front = front; fewer = fewer; carried = h }
front-of sent octets (Some a) None front fewer h = h
front-of sent octets None b front fewer h = h

length-front : (octets : List ℕ) (at : ℕ) → at < length octets → length (take at octets) < length octets
length-front octets at more = omega (
  arith,
  more,
  ap length (take-append-drop at octets),
  length-append (take at octets) (drop at octets),
  length-drop at octets,
)

pub written-front : (octets : List ℕ) (at : ℕ) (a b : Option Traffic) → at < length octets → IfTrafficKnown (Carries [] (take at octets)) a b
    → IfTrafficKnown (WritesFront octets) a b
written-front octets at a b more h = front-of (take at octets) octets a b (record { more = drop at octets; parts = sym (take-append-drop at octets) })
    (length-front octets at more) h

-- what was moved is what was carried
pub sent-whole : (octets : List ℕ) (a b : Option Traffic) → IfTrafficKnown (MovesTraffic [] octets) a b → IfTrafficKnown (Carries [] octets) a b
sent-whole octets (Some a) (Some b) h = record { coming = h.0; written = h.1 }
sent-whole octets (Some a) None h = h
sent-whole octets None b h = h

pub sent-front : (octets : List ℕ) (n : ℕ) (a b : Option Traffic) → n < length octets → IfTrafficKnown (MovesTraffic [] (take n octets)) a b
    → IfTrafficKnown (WritesFront octets) a b
sent-front octets n a b more h = written-front octets n a b more (sent-whole (take n octets) a b h)

-- a beginning of these octets was written, and where there are some not all of them
pub sends-front : (octets : List ℕ) (a b : Option Traffic) → IfTrafficKnown (WritesFront octets) a b → (sent : List ℕ) × Extends sent octets
    × IfTrafficKnown (Carries [] sent) a b × (0 < length octets → length sent < length octets)
sends-front octets (Some a) (Some b) h = (h.sent, h.front, h.carried, λ some. h.fewer)
sends-front octets (Some a) None h = absurd h
sends-front octets None b h = ([], record { more = octets; parts = refl }, h, λ some. some)

-- a part of octets of which there are some was written
pub sends-part : (octets : List ℕ) (a b : Option Traffic) → 0 < length octets → IfTrafficKnown (WritesFront octets) a b → (sent : List ℕ) × IsPart sent octets
    × IfTrafficKnown (Carries [] sent) a b
sends-part octets a b some h = let front = sends-front octets a b h in (front.0, (front.1, front.3 some), front.2)

-- ---- a whole write, part by part

-- the part from one place up to another is written too
pub part-written : (octets : List ℕ) (at end : ℕ) (a b c : Option Traffic) → Written octets at a b → at ≤ end → end ≤ length octets
    → IfTrafficKnown (Carries [] (take (end - at) (drop at octets))) b c → Written octets end a c
part-written octets at end a b c w on fits h =
    let whole : at + (end - at) ≡ end = omega (arith, on) in
    record {
      within = fits;
      carried = carried-as [] (take at octets ++ take (end - at) (drop at octets)) [] (take end octets) a c refl
          (sym (take-add at (end - at) octets) ∙ ap (λ (n : ℕ). take n octets) whole)
          (carried-then [] (take at octets) [] (take (end - at) (drop at octets)) a b c w.carried h);
    }

-- a beginning of that part is written too
pub part-front : (octets : List ℕ) (at count : ℕ) (a b c : Option Traffic) → Written octets at a b → 0 < length (take count (drop at octets))
    → IfTrafficKnown (WritesFront (take count (drop at octets))) b c → IfTrafficKnown (WritesFront octets) a c
part-front octets at count a b c w some h =
    let front = sends-front (take count (drop at octets)) b c h in
    front-of (take at octets ++ front.0) octets a c (record { more = front.1.more ++ drop count (drop at octets); parts = parts front.0 front.1 })
    (fewer front.0 (front.3 some)) (carried-then [] (take at octets) [] front.0 a b c w.carried front.2)
  where
    fewer : (sent : List ℕ) → length sent < length (take count (drop at octets)) → length (take at octets ++ sent) < length octets
    fewer sent few =
        omega (
          arith,
          few,
          length-append (take at octets) sent,
          ap length (take-append-drop at octets),
          length-append (take at octets) (drop at octets),
          ap length (take-append-drop count (drop at octets)),
          length-append (take count (drop at octets)) (drop count (drop at octets)),
        )

    parts : (sent : List ℕ) (e : Extends sent (take count (drop at octets))) → octets ≡ (take at octets ++ sent) ++ (e.more ++ drop count (drop at octets))
    parts sent e =
        sym (take-append-drop at octets)
        ∙ (ap (λ (t : List ℕ). take at octets ++ t) (sym (take-append-drop count (drop at octets))
        ∙ (ap (λ (t : List ℕ). t ++ drop count (drop at octets)) e.parts ∙ append_assoc sent e.more (drop count (drop at octets))))
        ∙ sym (append_assoc (take at octets) sent (e.more ++ drop count (drop at octets))))
