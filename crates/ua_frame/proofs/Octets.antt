-- Octets that are written one by one.
use Rattle.std.proofs.Common.{◌≡◌, ℕ, List, [], ◌∷◌, ◌++◌, length, refl, ◌∙◌, ap, arith}
use Rattle.std.specs.Prelude.{slice_index}
use Rattle.std.specs.List.{flat_map}
use borrow.Rule.Slice.PartMut.{put_mid}
use Rattle.byteorder.specs.Endian.{little_bytes}
use Rattle.ua_wire.specs.Number.{number_octets}
use Rattle.ua_wire.proofs.NumbersRead.{length-number_octets, little_bytes-is}
use Rattle.ua_builtin.specs.Counted.{text, counted}
use Rattle.ua_builtin.specs.Status.{status_code, of_code}
use Rattle.ua_frame.specs.declared.ack.Ack.{Ack}
use Rattle.ua_frame.specs.declared.kind.Kind.{Kind}
use Rattle.ua_frame.specs.declared.kind.Kind.TheVariants.{Hel, Ack as AckKind, Msg, Opn, Clo}
use Rattle.ua_frame.specs.declared.kind.Kind.TheVariants as kind
use Rattle.ua_frame.specs.Kinds.{kind_octets}
use Rattle.ua_frame.specs.Frames.{frame_octets}
use Rattle.ua_frame.specs.Messages.{ack, ack_frame, error, err_frame}

four_of : (b : List ℕ) → length b ≡ 4 → slice_index b 0 ∷ (slice_index b 1 ∷ (slice_index b 2 ∷ (slice_index b 3 ∷ []))) ≡ b
four_of (a ∷ (b ∷ (c ∷ (d ∷ [])))) l = refl
four_of [] l = absurd (omega arith)
four_of (a ∷ []) l = absurd (omega arith)
four_of (a ∷ (b ∷ [])) l = absurd (omega arith)
four_of (a ∷ (b ∷ (c ∷ []))) l = absurd (omega arith)
four_of (a ∷ (b ∷ (c ∷ (d ∷ (e ∷ f))))) l = absurd (omega arith)

three_of : (k : Kind) (t : List ℕ) → slice_index (kind_octets k) 0 ∷ (slice_index (kind_octets k) 1 ∷ (slice_index (kind_octets k) 2 ∷ t)) ≡ kind_octets k ++ t
three_of Hel t = refl
three_of AckKind t = refl
three_of kind.Err t = refl
three_of Msg t = refl
three_of Opn t = refl
three_of Clo t = refl

pub header_octets-is : (k : Kind) (name bytes : List ℕ) (flag size : ℕ) → name ≡ kind_octets k → bytes ≡ little_bytes 4 size
    → slice_index name 0
    ∷ (slice_index name 1
    ∷ (slice_index name 2 ∷ (flag ∷ (slice_index bytes 0 ∷ (slice_index bytes 1 ∷ (slice_index bytes 2 ∷ (slice_index bytes 3 ∷ []))))))) ≡ kind_octets k
    ++ flag ∷ number_octets 4 size
header_octets-is k name bytes flag size p q =
    let is : bytes ≡ number_octets 4 size = q ∙ little_bytes-is 4 size in
    ap (λ (n : List ℕ).
    slice_index n 0
    ∷ (slice_index n 1 ∷ (slice_index n 2 ∷ (flag ∷ (slice_index bytes 0 ∷ (slice_index bytes 1 ∷ (slice_index bytes 2 ∷ (slice_index bytes 3 ∷ [])))))))) p
    ∙ (three_of k (flag ∷ (slice_index bytes 0 ∷ (slice_index bytes 1 ∷ (slice_index bytes 2 ∷ (slice_index bytes 3 ∷ [])))))
    ∙ ap (λ (t : List ℕ). kind_octets k ++ flag ∷ t) (four_of bytes (ap length is ∙ length-number_octets 4 size) ∙ is))

-- the octets of an ERR frame, of its header and its code
abbrev pub err_by : List ℕ → List ℕ → List ℕ
err_by h b =
    slice_index h 0 ∷ (slice_index h 1 ∷ (slice_index h 2 ∷ (slice_index h 3 ∷ (slice_index h 4 ∷ (slice_index h 5 ∷ (slice_index h 6 ∷ (slice_index h 7
    ∷ (slice_index b 0 ∷ (slice_index b 1 ∷ (slice_index b 2 ∷ (slice_index b 3 ∷ (255 ∷ (255 ∷ (255 ∷ (255 ∷ [])))))))))))))))

err_of : (code : ℕ) → err_by (kind_octets kind.Err ++ 70 ∷ number_octets 4 16) (number_octets 4 code) ≡ frame_octets (err_frame (of_code code))
unfolding frame_octets error status_code text counted number_octets
err_of code = refl

pub error_frame-is : (code : ℕ) (h b : List ℕ) → h ≡ kind_octets kind.Err ++ 70 ∷ number_octets 4 16 → b ≡ little_bytes 4 code
    → err_by h b ≡ frame_octets (err_frame (of_code code))
error_frame-is code h b p q = ap (λ (t : List ℕ). err_by t b) p ∙ (ap (err_by (kind_octets kind.Err ++ 70 ∷ number_octets 4 16)) (q ∙ little_bytes-is 4 code)
    ∙ err_of code)

-- ---- an ACK frame

five : (a b c d e a' b' c' d' e' : List ℕ) → a ≡ a' → b ≡ b' → c ≡ c' → d ≡ d' → e ≡ e'
    → a ++ (b ++ (c ++ (d ++ (e ++ [])))) ≡ a' ++ (b' ++ (c' ++ (d' ++ (e' ++ []))))
five a b c d e a' b' c' d' e' p q r s t = cc

abbrev pub zeros : List ℕ
zeros = 0 ∷ (0 ∷ (0 ∷ (0 ∷ (0 ∷ (0 ∷ (0 ∷ (0 ∷ (0 ∷ (0 ∷ (0 ∷ (0 ∷ (0 ∷ (0 ∷ (0 ∷ (0 ∷ (0 ∷ (0 ∷ (0 ∷ (0 ∷ [])))))))))))))))))))

ack_of_numbers : (a : Ack)
    → put_mid 8 20 ((kind_octets kind.Ack ++ 70 ∷ number_octets 4 28) ++ zeros)
    (number_octets 4 a.protocol_version
    ++ (number_octets 4 a.receive_buffer_size
    ++ (number_octets 4 a.send_buffer_size ++ (number_octets 4 a.max_message_size ++ (number_octets 4 a.max_chunk_count ++ []))))) ≡ frame_octets (ack_frame a)
unfolding frame_octets ack number_octets
ack_of_numbers a = refl

pub ack_octets-is : (a : Ack) (h n : List ℕ) → h ≡ kind_octets kind.Ack ++ 70 ∷ number_octets 4 28
    → n ≡ flat_map (little_bytes 4) (a.protocol_version ∷ (a.receive_buffer_size ∷ (a.send_buffer_size ∷ (a.max_message_size ∷ (a.max_chunk_count ∷ [])))))
    → put_mid 8 20 (h ++ zeros) n ≡ frame_octets (ack_frame a)
ack_octets-is a h n p q =
    let numbers = five (little_bytes 4 a.protocol_version) (little_bytes 4 a.receive_buffer_size) (little_bytes 4 a.send_buffer_size)
    (little_bytes 4 a.max_message_size) (little_bytes 4 a.max_chunk_count)
    (number_octets 4 a.protocol_version) (number_octets 4 a.receive_buffer_size) (number_octets 4 a.send_buffer_size) (number_octets 4 a.max_message_size)
    (number_octets 4 a.max_chunk_count)
    (little_bytes-is 4 a.protocol_version) (little_bytes-is 4 a.receive_buffer_size) (little_bytes-is 4 a.send_buffer_size)
    (little_bytes-is 4 a.max_message_size) (little_bytes-is 4 a.max_chunk_count) in
    ap (λ (t : List ℕ). put_mid 8 20 (t ++ zeros) n) p
    ∙ (ap (λ (t : List ℕ). put_mid 8 20 ((kind_octets kind.Ack ++ 70 ∷ number_octets 4 28) ++ zeros) t) (q ∙ numbers) ∙ ack_of_numbers a)
