-- The octets of an OPN frame that are written one behind the other.
use Rattle.std.proofs.Common.{◌≡◌, ℕ, ◌+◌, List, ◌∷◌, ◌++◌, sym, ◌∙◌, ap, arith, length, append_assoc, Some, None, length-append}
use Rattle.ua_wire.specs.Counted.{counted, null_count}
use Rattle.ua_wire.specs.Number.{number_octets}
use Rattle.ua_frame.specs.Frames.{frame_octets}
use Rattle.ua_frame.specs.Kinds.{kind_octets}
use Rattle.ua_frame.specs.declared.kind.Kind.TheVariants.{Opn}
use Rattle.ua_chunk.specs.Opening.{none_policy, SecurityHeader, policy_header}
use Rattle.ua_channel.specs.ServerSends.{opening_frame}
use Rattle.ua_chunk.specs.Layout.{sequence_header}
use Rattle.ua_wire.proofs.NumbersRead.{length-number_octets}

-- ---- what is in one

-- the security header of the policy None on a channel
abbrev pub none_header : ℕ → SecurityHeader
none_header channel = (channel, (Some none_policy, (None, None)))

-- the body of an OPN under it
abbrev pub opening_body : ℕ → ℕ → ℕ → List ℕ → List ℕ
opening_body channel number id octets = policy_header.canonical (none_header channel) ++ (sequence_header.canonical (number, id) ++ octets)

-- the size of that
pub opening_size : (channel number id : ℕ) (octets : List ℕ) → length (opening_body channel number id octets) ≡ 71 + length octets
unfolding counted
opening_size channel number id octets =
    let a = number_octets 4 channel in
    let b = number_octets 4 47 in
    let d = number_octets 4 0xFFFF_FFFF in
    let f = number_octets 4 number in
    let g = number_octets 4 id in
    omega (
      arith,
      length-append (a ++ ((b ++ none_policy) ++ (d ++ d))) ((f ++ g) ++ octets),
      length-append a ((b ++ none_policy) ++ (d ++ d)),
      length-append (b ++ none_policy) (d ++ d),
      length-append b none_policy,
      length-append d d,
      length-append (f ++ g) octets,
      length-append f g,
      length-number_octets 4 channel,
      length-number_octets 4 47,
      length-number_octets 4 0xFFFF_FFFF,
      length-number_octets 4 number,
      length-number_octets 4 id,
    )

-- ---- its octets

regrouped : (a b c d e f g body : List ℕ) → (a ++ ((b ++ c) ++ (d ++ e))) ++ ((f ++ g) ++ body) ≡ a ++ (b ++ (c ++ (d ++ (e ++ (f ++ (g ++ body))))))
regrouped a b c d e f g body =
    append_assoc a ((b ++ c) ++ (d ++ e)) ((f ++ g) ++ body)
    ∙ ap (λ (t : List ℕ). a ++ t)
    (append_assoc (b ++ c) (d ++ e) ((f ++ g) ++ body)
    ∙ (append_assoc b c ((d ++ e) ++ ((f ++ g) ++ body))
    ∙ ap (λ (t : List ℕ). b ++ (c ++ t)) (append_assoc d e ((f ++ g) ++ body) ∙ ap (λ (t : List ℕ). d ++ (e ++ t)) (append_assoc f g body))))

behind_size : (size : ℕ) (x y : List ℕ) (n : ℕ) → size ≡ n → x ≡ y → (kind_octets Opn ++ 70 ∷ number_octets 4 size) ++ x ≡ kind_octets Opn
    ++ 70 ∷ (number_octets 4 n ++ y)
behind_size size x y n p q = ap (λ (k : ℕ). (kind_octets Opn ++ 70 ∷ number_octets 4 k) ++ x) p
    ∙ ap (λ (t : List ℕ). kind_octets Opn ++ 70 ∷ (number_octets 4 n ++ t)) q

pub opening_octets : (channel sequence request len size : ℕ) (body : List ℕ) → length body ≡ len → size ≡ 79 + len
    → (kind_octets Opn ++ 70 ∷ number_octets 4 size)
    ++ (number_octets 4 channel
    ++ (number_octets 4 47
    ++ (none_policy ++ (number_octets 4 null_count ++ (number_octets 4 null_count ++ (number_octets 4 sequence ++ (number_octets 4 request ++ body)))))))
    ≡ frame_octets (opening_frame channel sequence request body)
unfolding frame_octets counted
opening_octets channel sequence request len size body len_is size_is =
    let a = number_octets 4 channel in
    let b = number_octets 4 47 in
    let d = number_octets 4 null_count in
    let f = number_octets 4 sequence in
    let g = number_octets 4 request in
    let parts = regrouped a b none_policy d d f g body in
    let count : size ≡ 8 + length ((a ++ ((b ++ none_policy) ++ (d ++ d))) ++ ((f ++ g) ++ body)) =
    omega (arith, size_is, len_is, opening_size channel sequence request body) in
    behind_size size _ _ _ count (sym parts)

eight : (old h a b c d e f g body : List ℕ) → ((((((((old ++ h) ++ a) ++ b) ++ c) ++ d) ++ e) ++ f) ++ g) ++ body ≡ old
    ++ (h ++ (a ++ (b ++ (c ++ (d ++ (e ++ (f ++ (g ++ body))))))))
eight old h a b c d e f g body =
    append_assoc (((((((old ++ h) ++ a) ++ b) ++ c) ++ d) ++ e) ++ f) g body
    ∙ (append_assoc ((((((old ++ h) ++ a) ++ b) ++ c) ++ d) ++ e) f (g ++ body)
    ∙ (append_assoc (((((old ++ h) ++ a) ++ b) ++ c) ++ d) e (f ++ (g ++ body))
    ∙ (append_assoc ((((old ++ h) ++ a) ++ b) ++ c) d (e ++ (f ++ (g ++ body)))
    ∙ (append_assoc (((old ++ h) ++ a) ++ b) c (d ++ (e ++ (f ++ (g ++ body))))
    ∙ (append_assoc ((old ++ h) ++ a) b (c ++ (d ++ (e ++ (f ++ (g ++ body)))))
    ∙ (append_assoc (old ++ h) a (b ++ (c ++ (d ++ (e ++ (f ++ (g ++ body))))))
    ∙ append_assoc old h (a ++ (b ++ (c ++ (d ++ (e ++ (f ++ (g ++ body)))))))))))))

pub opening_appended : (channel sequence request len size : ℕ) (old h policy o1 o2 o3 o4 o5 o6 o7 o8 : List ℕ) (count : ℕ)
    → h ≡ kind_octets Opn ++ 70 ∷ number_octets 4 size → size ≡ 79 + len → policy ≡ none_policy → count ≡ 47
    → o1 ≡ old ++ h → o2 ≡ o1 ++ number_octets 4 channel → o3 ≡ o2 ++ number_octets 4 count → o4 ≡ o3 ++ policy → o5 ≡ o4 ++ number_octets 4 null_count
    → o6 ≡ o5 ++ number_octets 4 null_count → o7 ≡ o6 ++ number_octets 4 sequence → o8 ≡ o7 ++ number_octets 4 request
    → (body : List ℕ) → length body ≡ len → o8 ++ body ≡ old ++ frame_octets (opening_frame channel sequence request body)
opening_appended channel sequence request len size old h policy o1 o2 o3 o4 o5 o6 o7 o8 count h_is size_is policy_is count_is e1 e2 e3 e4 e5 e6 e7 e8 body
    len_is =
    let whole : o8
    ≡ (((((((old ++ h) ++ number_octets 4 channel) ++ number_octets 4 count) ++ policy) ++ number_octets 4 null_count) ++ number_octets 4 null_count)
    ++ number_octets 4 sequence) ++ number_octets 4 request = cc in
    ap (λ (t : List ℕ). t ++ body) whole
    ∙ (eight old h (number_octets 4 channel) (number_octets 4 count) policy (number_octets 4 null_count) (number_octets 4 null_count) (number_octets 4 sequence)
    (number_octets 4 request) body
    ∙ ap (λ (t : List ℕ). old ++ t)
    (ap (λ (t : List ℕ).
    t ++ (number_octets 4 channel
    ++ (number_octets 4 count
    ++ (policy ++ (number_octets 4 null_count ++ (number_octets 4 null_count ++ (number_octets 4 sequence ++ (number_octets 4 request ++ body)))))))) h_is
    ∙ (ap (λ (n : ℕ). (kind_octets Opn ++ 70 ∷ number_octets 4 size)
    ++ (number_octets 4 channel
    ++ (number_octets 4 n
    ++ (policy ++ (number_octets 4 null_count ++ (number_octets 4 null_count ++ (number_octets 4 sequence ++ (number_octets 4 request ++ body))))))))
    count_is
    ∙ (ap (λ (p : List ℕ). (kind_octets Opn ++ 70 ∷ number_octets 4 size)
    ++ (number_octets 4 channel
    ++ (number_octets 4 47
    ++ (p ++ (number_octets 4 null_count ++ (number_octets 4 null_count ++ (number_octets 4 sequence ++ (number_octets 4 request ++ body)))))))) policy_is
    ∙ opening_octets channel sequence request len size body len_is size_is))))
