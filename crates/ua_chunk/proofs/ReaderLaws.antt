-- The definitions in other words, for readers.
use Rattle.std.proofs.Common.{◌≡◌, ℕ, ◌<◌, ◌^◌, Bool, true, false, cond, not, ◌&&◌, ◌||◌, ◌↔◌, eqb}
use Rattle.std.proofs.Common.{ltb, Option, Some, None, List, [], ◌∷◌, refl, ◌∙◌, ap, subst}
use Rattle.std.proofs.lemmas.Bool.{or_parts, and_from, eqb-true, lt-ltb, false_from_ne_true}
use Rattle.std.specs.List.{list_any, filter}
use Rattle.ua_wire.specs.Counted.{text, counted}
use Rattle.ua_builtin.specs.Status.{status_code}
use Rattle.ua_builtin.specs.declared.status_code.StatusCode.{StatusCode}
use Rattle.ua_frame.proofs.Wholes.{encodes_whole, whole_encodes}
use Rattle.ua_chunk.specs.declared.chunk.Chunk.{Chunk}
use Rattle.ua_chunk.specs.Abort.{abort_body, abort_of}
use Rattle.ua_chunk.specs.Gathered.{is_of, is_more, ends, after_last, unfinished}
use Rattle.ua_chunk.specs.Layout.{IsChunkOf, token_header, sequence_header, frame_of}
use Rattle.ua_chunk.specs.Open.{open_ids}
use Rattle.ua_chunk.proofs.Lists.{left_any}
use Rattle.ua_chunk.proofs.OneMore.{not_open}
use Rattle.ua_chunk.proofs.HeadersLawful.{sound_token_header, sound_sequence_header, sound_abort_body}

-- ---- open ids

no_filter : {X : Type 0} (p : X → Bool) (xs : List X) → list_any p xs ≡ false → filter p xs ≡ []
no_filter p [] h = refl
no_filter p (x ∷ xs) h =
    let parts = or_parts (p x) (list_any p xs) h in
    ap (λ b. cond b (x ∷ filter p xs) (filter p xs)) parts.0 ∙ no_filter p xs parts.1

rest_empty : {X : Type 0} (b : Bool) (x : X) (al xs : List X) → cond b al (x ∷ xs) ≡ [] → al ≡ []
rest_empty true x al xs e = e
rest_empty false x al xs e = absurd cc

last_alone : (c : Chunk) (f : List Chunk) → is_more c ≡ true → f ≡ [] → after_last ends (c ∷ f) ≡ [] → ⊥
last_alone c f more none e =
    let alone : after_last ends (c ∷ []) ≡ [] = subst (λ (t : List Chunk). after_last ends (c ∷ t) ≡ []) none e in
    let kept : c ∷ [] ≡ [] = subst (λ (b : Bool). cond (not b || false) [] (c ∷ []) ≡ []) more alone in
    cc

-- own: whether c has the id; more: whether it is a C; later: whether a later chunk has its id
open_some_step : (own more later : Bool) (id : ℕ) (c : Chunk) (f : List Chunk) (o : List ℕ) → is_of id c ≡ own → is_more c ≡ more
    → list_any (λ j. eqb j id) (cond (more && not later) (c.request ∷ o) o) ≡ true
    → after_last ends (cond own (c ∷ f) f) ≡ [] → (own ≡ true → later ≡ false → f ≡ []) → (list_any (λ j. eqb j id) o ≡ true → after_last ends f ≡ [] → ⊥) → ⊥
open_some_step false false later id c f o s m h e none ih = ih h e
open_some_step false true true id c f o s m h e none ih = ih h e
open_some_step false true false id c f o s m h e none ih = ih (left_any (eqb c.request id) (list_any (λ j. eqb j id) o) h s) e
open_some_step true false later id c f o s m h e none ih = ih h (rest_empty (ends c || list_any ends f) c (after_last ends f) f e)
open_some_step true true true id c f o s m h e none ih = ih h (rest_empty (ends c || list_any ends f) c (after_last ends f) f e)
open_some_step true true false id c f o s m h e none ih = last_alone c f m (none refl refl) e

open_some : (id : ℕ) (cs : List Chunk) → list_any (λ j. eqb j id) (open_ids cs) ≡ true → unfinished id cs ≡ [] → ⊥
open_some id [] h e = absurd cc
open_some id (c ∷ cs) h e =
    open_some_step (is_of id c) (is_more c) (list_any (is_of c.request) cs) id c (filter (is_of id) cs) (open_ids cs) refl refl h e
    (λ own later. no_filter (is_of id) cs (subst (λ (k : ℕ). list_any (is_of k) cs ≡ false) (eqb-true c.request id own) later))
    (open_some id cs)

pub open_is_unfinished : (id : ℕ) (cs : List Chunk) → (list_any (λ j. eqb j id) (open_ids cs) ≡ false) ↔ (unfinished id cs ≡ [])
open_is_unfinished id cs = (λ h. not_open id cs h, λ e. false_from_ne_true (list_any (λ j. eqb j id) (open_ids cs)) (λ h. open_some id cs h e))

-- ---- chunks of frames

pub frame_of_chunk : (c : Chunk) → c.channel < 2 ^ 32 → c.token < 2 ^ 32 → c.sequence < 2 ^ 32 → c.request < 2 ^ 32 → IsChunkOf (frame_of c) c
frame_of_chunk c channel token sequence request = record {
  flag = refl;
  security = token_header.canonical (c.channel, c.token);
  sequence = sequence_header.canonical (c.sequence, c.request);
  octets = refl;
  security_encoded = sound_token_header.canonical_encodes (c.channel, c.token)
      (and_from (ltb c.channel (256 ^ 4)) (ltb c.token (256 ^ 4)) (lt-ltb c.channel (256 ^ 4) channel) (lt-ltb c.token (256 ^ 4) token));
  sequence_encoded = sound_sequence_header.canonical_encodes (c.sequence, c.request)
      (and_from (ltb c.sequence (256 ^ 4)) (ltb c.request (256 ^ 4)) (lt-ltb c.sequence (256 ^ 4) sequence) (lt-ltb c.request (256 ^ 4) request));
}

-- ---- aborts

pub abort_is_encoded : (b : List ℕ) (a : StatusCode × Option (List ℕ)) → (abort_of b ≡ Some a) ↔ abort_body.encodes a b
abort_is_encoded b a = (encodes_whole abort_body sound_abort_body b a, whole_encodes abort_body sound_abort_body b a)

encodable_code : (code : StatusCode) → code.code < 2 ^ 32 → abort_body.encodable (code, None) ≡ true
unfolding abort_body status_code text counted
encodable_code code small = and_from (ltb code.code (256 ^ 4)) true (lt-ltb code.code (256 ^ 4) small) refl

pub abort_written : (code : StatusCode) → code.code < 2 ^ 32 → abort_of (abort_body.canonical (code, None)) ≡ Some (code, None)
abort_written code small = (abort_is_encoded (abort_body.canonical (code, None)) (code, None)).1
    (sound_abort_body.canonical_encodes (code, None) (encodable_code code small))
