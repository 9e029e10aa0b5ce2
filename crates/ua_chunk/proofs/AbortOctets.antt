-- The octets of an A chunk that are written one by one.
use Rattle.std.proofs.Common.{◌≡◌, ℕ, List, [], ◌∷◌, ◌++◌, refl, ◌∙◌, ap}
use Rattle.std.specs.List.{flat_map}
use borrow.Rule.Slice.PartMut.{put_mid}
use Rattle.byteorder.specs.Endian.{little_bytes}
use Rattle.ua_wire.specs.Number.{number_octets}
use Rattle.ua_wire.proofs.NumbersRead.{little_bytes-is}
use Rattle.ua_wire.specs.Counted.{text, counted}
use Rattle.ua_builtin.specs.Status.{status_code}
use Rattle.ua_builtin.specs.declared.status_code.StatusCode.{StatusCode}
use Rattle.ua_frame.specs.Frames.{frame_octets}
use Rattle.ua_frame.specs.Kinds.{kind_octets}
use Rattle.ua_frame.specs.declared.kind.Kind.TheVariants.{Msg}
use Rattle.ua_chunk.specs.declared.lane.Lane.{Lane}
use Rattle.ua_chunk.specs.Abort.{abort_body}
use Rattle.ua_chunk.specs.Cutting.{abort_chunk}
use Rattle.ua_chunk.specs.Layout.{frame_of}

six : (a b c d e f a' b' c' d' e' f' : List ℕ) → a ≡ a' → b ≡ b' → c ≡ c' → d ≡ d' → e ≡ e' → f ≡ f'
    → a ++ (b ++ (c ++ (d ++ (e ++ (f ++ []))))) ≡ a' ++ (b' ++ (c' ++ (d' ++ (e' ++ (f' ++ [])))))
six a b c d e f a' b' c' d' e' f' p q r s t u = cc

abbrev zeros : List ℕ
zeros = 0 ∷ 0 ∷ 0 ∷ 0 ∷ 0 ∷ 0 ∷ 0 ∷ 0 ∷ 0 ∷ 0 ∷ 0 ∷ 0 ∷ 0 ∷ 0 ∷ 0 ∷ 0 ∷ 0 ∷ 0 ∷ 0 ∷ 0 ∷ 0 ∷ 0 ∷ 0 ∷ 0 ∷ []

abort_of_numbers : (lane : Lane) (s id : ℕ) (code : StatusCode)
    → put_mid 8 24 ((kind_octets Msg ++ 65 ∷ number_octets 4 32) ++ zeros)
    (number_octets 4 lane.channel
    ++ (number_octets 4 lane.token ++ (number_octets 4 s ++ (number_octets 4 id ++ (number_octets 4 code.code ++ (number_octets 4 4294967295 ++ []))))))
    ≡ frame_octets (frame_of (abort_chunk lane s id code))
unfolding frame_octets abort_body status_code text counted number_octets
abort_of_numbers lane s id code = refl

pub abort_octets-is : (lane : Lane) (s id : ℕ) (code : StatusCode) (h n : List ℕ) → h ≡ kind_octets Msg ++ 65 ∷ number_octets 4 32
    → n ≡ flat_map (little_bytes 4) (lane.channel ∷ (lane.token ∷ (s ∷ (id ∷ (code.code ∷ (4294967295 ∷ []))))))
    → put_mid 8 24 (h ++ zeros) n ≡ frame_octets (frame_of (abort_chunk lane s id code))
abort_octets-is lane s id code h n p q =
    let numbers = six (little_bytes 4 lane.channel) (little_bytes 4 lane.token) (little_bytes 4 s) (little_bytes 4 id) (little_bytes 4 code.code)
    (little_bytes 4 4294967295)
    (number_octets 4 lane.channel) (number_octets 4 lane.token) (number_octets 4 s) (number_octets 4 id) (number_octets 4 code.code)
    (number_octets 4 4294967295)
    (little_bytes-is 4 lane.channel) (little_bytes-is 4 lane.token) (little_bytes-is 4 s) (little_bytes-is 4 id) (little_bytes-is 4 code.code)
    (little_bytes-is 4 4294967295) in
    ap (λ (t : List ℕ). put_mid 8 24 (t ++ zeros) n) p
    ∙ (ap (λ (t : List ℕ). put_mid 8 24 ((kind_octets Msg ++ 65 ∷ number_octets 4 32) ++ zeros) t) (q ∙ numbers) ∙ abort_of_numbers lane s id code)
