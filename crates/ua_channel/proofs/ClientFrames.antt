-- The frames that a client sends, as what stands in front of them and what is in them.
use Rattle.std.proofs.Common.{◌≡◌, ℕ, ◌<◌, ◌+◌, ◌^◌, Bool, true, false, ◌&&◌, List, ◌∷◌, ◌++◌, Option, Some}
use Rattle.std.proofs.Common.{None, IsTrue, length, sym, ◌∙◌, ap, arith, ltb, append_assoc, length-append}
use Rattle.std.specs.Str.{is_utf8}
use Rattle.ua_wire.specs.Counted.{counted, text, null_count}
use Rattle.ua_wire.specs.Number.{number_octets}
use Rattle.ua_wire.proofs.NumbersRead.{length-number_octets}
use Rattle.ua_frame.specs.declared.limits.Limits.{Limits}
use Rattle.ua_frame.specs.declared.kind.Kind.TheVariants.{Hel}
use Rattle.ua_frame.specs.Agreement.{url_length}
use Rattle.ua_frame.specs.Frames.{frame_octets}
use Rattle.ua_frame.specs.Kinds.{kind_octets}
use Rattle.ua_frame.specs.Messages.{hello}
use Rattle.ua_chunk.specs.Layout.{token_header, sequence_header}
use Rattle.ua_opening.specs.Message.{message}
use Rattle.ua_opening.specs.SecureChannel.{close_request}
use Rattle.ua_opening.specs.Plain.{close_request_of}
use Rattle.ua_builtin.specs.declared.date_time.DateTime.{DateTime}
use Rattle.ua_channel.specs.ClientSends.{hello_to, hello_frame, close_frame}
use Rattle.ua_channel.specs.inside.ClientAsking.{closing_front}

-- ---- HEL

fits_below : (n : ℕ) (u : Bool) → IsTrue (u && ltb n 2147483648) → n < 2 ^ 31
fits_below n true fits = grind (fits, arith)
fits_below n false fits = grind (fits, arith)

pub url_short : (url : Option (List ℕ)) → IsTrue (text.encodable url) → url_length url < 2 ^ 31
unfolding text counted
url_short None fits = omega arith
url_short (Some v) fits = fits_below (length v) (is_utf8 v) fits

pub short_some : (url : Option (List ℕ)) (v : List ℕ) → IsTrue (text.encodable url) → url ≡ Some v → length v < 2 ^ 31
short_some url v fits is = omega (arith, ap url_length (sym is), url_short url fits)

text_length : (url : Option (List ℕ)) → length (text.canonical url) ≡ 4 + url_length url
unfolding text counted
text_length None = length-number_octets 4 null_count
text_length (Some v) = length-append (number_octets 4 (length v)) v ∙ ap (λ (n : ℕ). n + length v) (length-number_octets 4 (length v))

pub hello_length : (limits : Limits) (url : Option (List ℕ)) → length (hello.canonical (hello_to limits url)) ≡ 24 + url_length url
unfolding hello
hello_length limits url =
    omega (
      arith,
      length-append (number_octets 4 0)
          (number_octets 4 limits.receive_buffer_size
          ++ (number_octets 4 limits.send_buffer_size
          ++ (number_octets 4 limits.max_message_size ++ (number_octets 4 limits.max_chunk_count ++ text.canonical url)))),
      length-append (number_octets 4 limits.receive_buffer_size)
          (number_octets 4 limits.send_buffer_size
          ++ (number_octets 4 limits.max_message_size ++ (number_octets 4 limits.max_chunk_count ++ text.canonical url))),
      length-append (number_octets 4 limits.send_buffer_size)
          (number_octets 4 limits.max_message_size ++ (number_octets 4 limits.max_chunk_count ++ text.canonical url)),
      length-append (number_octets 4 limits.max_message_size) (number_octets 4 limits.max_chunk_count ++ text.canonical url),
      length-append (number_octets 4 limits.max_chunk_count) (text.canonical url),
      length-number_octets 4 0,
      length-number_octets 4 limits.receive_buffer_size,
      length-number_octets 4 limits.send_buffer_size,
      length-number_octets 4 limits.max_message_size,
      length-number_octets 4 limits.max_chunk_count,
      text_length url,
    )

pub hello_framed : (limits : Limits) (url : Option (List ℕ)) (size : ℕ) → size ≡ 32 + url_length url
    → (kind_octets Hel ++ 70 ∷ number_octets 4 size) ++ hello.canonical (hello_to limits url) ≡ frame_octets (hello_frame (hello_to limits url))
unfolding frame_octets
hello_framed limits url size is =
    let same : size ≡ 8 + length (hello.canonical (hello_to limits url)) = omega (arith, is, hello_length limits url) in
    ap (λ (n : ℕ). 72 ∷ 69 ∷ 76 ∷ 70 ∷ (number_octets 4 n ++ hello.canonical (hello_to limits url))) same

numbers_length : (n m : ℕ) → length (number_octets 4 n ++ number_octets 4 m) ≡ 8
numbers_length n m = omega (arith, length-append (number_octets 4 n) (number_octets 4 m), length-number_octets 4 n, length-number_octets 4 m)

-- ---- CLO

pub closing_framed : (channel token number id : ℕ) (moment : DateTime) → length ((message 452 close_request).canonical (close_request_of moment 0)) ≡ 33
    → closing_front channel token number id ++ (message 452 close_request).canonical (close_request_of moment 0)
    ≡ frame_octets (close_frame channel token number id moment)
unfolding frame_octets
closing_framed channel token number id moment e =
    let tokens = token_header.canonical (channel, token) in
    let numbers = sequence_header.canonical (number, id) in
    let body = (message 452 close_request).canonical (close_request_of moment 0) in
    let same : 57 ≡ 8 + length (tokens ++ (numbers ++ body)) =
    omega (arith, e, length-append tokens (numbers ++ body), length-append numbers body, numbers_length channel token, numbers_length number id) in
    ap (λ (t : List ℕ). 67 ∷ 76 ∷ 79 ∷ 70 ∷ t)
    (append_assoc (number_octets 4 57) (tokens ++ numbers) body
    ∙ ap (λ (t : List ℕ). number_octets 4 57 ++ t) (append_assoc tokens numbers body)
    ∙ ap (λ (m : ℕ). number_octets 4 m ++ (tokens ++ (numbers ++ body))) same)
