-- The octets in front of the body of a chunk, of which the numbers are written behind the frame's header.
use Rattle.std.proofs.Common.{◌≡◌, ℕ, List, [], ◌∷◌, ◌++◌, refl, ◌∙◌, ap}
use Rattle.std.specs.List.{flat_map}
use borrow.Rule.Slice.PartMut.{put_mid}
use Rattle.byteorder.specs.Endian.{little_bytes}
use Rattle.ua_wire.specs.Number.{number_octets}
use Rattle.ua_wire.proofs.NumbersRead.{little_bytes-is}
use Rattle.ua_frame.specs.Kinds.{kind_octets}
use Rattle.ua_frame.specs.declared.kind.Kind.TheVariants.{Msg}
use Rattle.ua_chunk.specs.declared.flag.Flag.{Flag}
use Rattle.ua_chunk.specs.declared.lane.Lane.{Lane}
use Rattle.ua_chunk.specs.Cutting.{front_octets}
use Rattle.ua_chunk.specs.Flag.{flag_octet}

four : (a b c d a' b' c' d' : List ℕ) → a ≡ a' → b ≡ b' → c ≡ c' → d ≡ d' → a ++ (b ++ (c ++ (d ++ []))) ≡ a' ++ (b' ++ (c' ++ (d' ++ [])))
four a b c d a' b' c' d' p q r s = cc

abbrev zeros : List ℕ
zeros = 0 ∷ 0 ∷ 0 ∷ 0 ∷ 0 ∷ 0 ∷ 0 ∷ 0 ∷ 0 ∷ 0 ∷ 0 ∷ 0 ∷ 0 ∷ 0 ∷ 0 ∷ 0 ∷ []

front_of_numbers : (lane : Lane) (flag : Flag) (size s id : ℕ)
    → put_mid 8 16 ((kind_octets Msg ++ flag_octet flag ∷ number_octets 4 size) ++ zeros)
    (number_octets 4 lane.channel ++ (number_octets 4 lane.token ++ (number_octets 4 s ++ (number_octets 4 id ++ []))))
    ≡ front_octets lane flag size s id
unfolding number_octets
front_of_numbers lane flag size s id = refl

pub front_octets-is : (lane : Lane) (flag : Flag) (octet size s id : ℕ) (h n : List ℕ) → octet ≡ flag_octet flag
    → h ≡ kind_octets Msg ++ octet ∷ number_octets 4 size
    → n ≡ flat_map (little_bytes 4) (lane.channel ∷ (lane.token ∷ (s ∷ (id ∷ [])))) → put_mid 8 16 (h ++ zeros) n ≡ front_octets lane flag size s id
front_octets-is lane flag octet size s id h n o p q =
    let numbers = four (little_bytes 4 lane.channel) (little_bytes 4 lane.token) (little_bytes 4 s) (little_bytes 4 id)
    (number_octets 4 lane.channel) (number_octets 4 lane.token) (number_octets 4 s) (number_octets 4 id)
    (little_bytes-is 4 lane.channel) (little_bytes-is 4 lane.token) (little_bytes-is 4 s) (little_bytes-is 4 id) in
    ap (λ (t : List ℕ). put_mid 8 16 (t ++ zeros) n) (p ∙ ap (λ (k : ℕ). kind_octets Msg ++ k ∷ number_octets 4 size) o)
    ∙ (ap (λ (t : List ℕ). put_mid 8 16 ((kind_octets Msg ++ flag_octet flag ∷ number_octets 4 size) ++ zeros) t) (q ∙ numbers)
    ∙ front_of_numbers lane flag size s id)
