-- What counts of the frames before, with one frame more.
use Rattle.std.proofs.Common.{◌≡◌, ℕ, List, [], ◌∷◌, ◌++◌, Option, Some, None, refl, ap, ◌∙◌, append-nil}
use Rattle.std.proofs.lemmas.List.Elements.{filter_map-append}
use Rattle.std.specs.List.{filter_map, cons_option, last_or}
use Rattle.ua_frame.specs.declared.frame.Frame.{Frame}
use Rattle.ua_chunk.specs.declared.chunk.Chunk.{Chunk}
use Rattle.ua_pair.specs.Before.{message_chunk, message_chunks, sequence_of, last_sequence}

-- one item more, which gives nothing
filter_map-none : {X Y : Type 0} (h : X → Option Y) (xs : List X) (x : X) → h x ≡ None → filter_map h (xs ++ x ∷ []) ≡ filter_map h xs
filter_map-none {Y = Y} h xs x e = filter_map-append h xs (x ∷ []) ∙ ap (λ (o : Option Y). filter_map h xs ++ cons_option o []) e ∙ append-nil (filter_map h xs)

-- one item more, which gives one
filter_map-some : {X Y : Type 0} (h : X → Option Y) (xs : List X) (x : X) (y : Y) → h x ≡ Some y → filter_map h (xs ++ x ∷ []) ≡ filter_map h xs ++ y ∷ []
filter_map-some {Y = Y} h xs x y e = filter_map-append h xs (x ∷ []) ∙ ap (λ (o : Option Y). filter_map h xs ++ cons_option o []) e

last_or-push : {A : Type 0} (o : Option A) (xs : List A) (x : A) → last_or o (xs ++ x ∷ []) ≡ Some x
last_or-push o [] x = refl
last_or-push o (y ∷ ys) x = last_or-push (Some y) ys x

-- a frame that carries no chunk of a message
pub message_chunks-none : (fs : List Frame) (f : Frame) → message_chunk f ≡ None → message_chunks (fs ++ f ∷ []) ≡ message_chunks fs
unfolding message_chunks
message_chunks-none fs f e = filter_map-none message_chunk fs f e

-- a frame that carries one
pub message_chunks-some : (fs : List Frame) (f : Frame) (c : Chunk) → message_chunk f ≡ Some c → message_chunks (fs ++ f ∷ []) ≡ message_chunks fs ++ c ∷ []
unfolding message_chunks
message_chunks-some fs f c e = filter_map-some message_chunk fs f c e

-- a frame without a sequence number
pub last_sequence-none : (fs : List Frame) (f : Frame) → sequence_of f ≡ None → last_sequence (fs ++ f ∷ []) ≡ last_sequence fs
unfolding last_sequence
last_sequence-none fs f e = ap (last_or None) (filter_map-none sequence_of fs f e)

-- a frame with one
pub last_sequence-some : (fs : List Frame) (f : Frame) (n : ℕ) → sequence_of f ≡ Some n → last_sequence (fs ++ f ∷ []) ≡ Some n
unfolding last_sequence
last_sequence-some fs f n e = ap (last_or None) (filter_map-some sequence_of fs f n e) ∙ last_or-push None (filter_map sequence_of fs) n

pub message_chunks-nil : message_chunks [] ≡ []
unfolding message_chunks
message_chunks-nil = refl

pub last_sequence-nil : last_sequence [] ≡ None
unfolding last_sequence
last_sequence-nil = refl
