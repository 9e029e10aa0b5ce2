-- What was received, with one frame more.
use Rattle.std.proofs.Common.{◌≡◌, ℕ, List, [], ◌∷◌, ◌++◌, true, Option, Some, None, refl, sym, ap, append-nil, map, ◌∙◌, append_assoc}
use Rattle.std.specs.List.{flat_map}
use Rattle.std.proofs.lemmas.List.{flat_map_more, map-append}
use Rattle.ua_frame.specs.declared.ack.Ack.{Ack}
use Rattle.ua_frame.specs.declared.frame.Frame.{Frame}
use Rattle.ua_frame.specs.After.{each_after, each_from}
use Rattle.ua_frame.specs.declared.hello.Hello.{Hello}
use Rattle.ua_chunk.specs.declared.chunk.Chunk.{Chunk}
use Rattle.ua_chunk.specs.Delivered.{delivered, given}
use Rattle.ua_chunk.specs.Item.{Item}
use Rattle.ua_chunk.proofs.OneMore.{delivered_push}
use Rattle.ua_channel.specs.Content.{Opening, Content, content}
use Rattle.ua_channel.specs.Content.Content.{Greets, Acks, Fails, Opens, Sends, Closes, Nothing}
use Rattle.ua_channel.specs.Received.{Received, latest_behind, latest, has_some, listed, number_listed, hellos_in, acks_in, openings_in}
use Rattle.ua_channel.specs.Received.{chunks_in, closings_in, numbers_in, tokens_in, hellos, acks, openings, messages, closings}
use Rattle.ua_channel.specs.Received.{numbers, used_tokens, received_of, received, nothing_received, or_before, number_or, after}

-- ---- the last of a list behind another, and with one element more

pub behind_append : {A : Type 0} (a : Option A) (xs ys : List A) → latest_behind a (xs ++ ys) ≡ latest_behind (latest_behind a xs) ys
behind_append a [] ys = refl
behind_append a (x ∷ xs) ys = behind_append (Some x) xs ys

pub behind_push : {A : Type 0} (a : Option A) (xs : List A) (y : A) → latest_behind a (xs ++ y ∷ []) ≡ Some y
behind_push a xs y = behind_append a xs (y ∷ [])

latest_listed : {A : Type 0} (xs : List A) (o : Option A) → latest (xs ++ listed o) ≡ or_before (latest xs) o
latest_listed xs None = ap latest (append-nil xs)
latest_listed xs (Some y) = behind_push None xs y

latest_number : (xs : List ℕ) (o : Option (ℕ × ℕ)) → latest (xs ++ number_listed o) ≡ number_or (latest xs) o
latest_number xs None = ap latest (append-nil xs)
latest_number xs (Some n) = behind_push None xs n.0

some_push : {A : Type 0} (xs : List A) (y : A) → has_some (xs ++ y ∷ []) ≡ true
some_push [] y = refl
some_push (x ∷ xs) y = refl

-- what each frame has of something, with one frame more
more : {A : Type 0} (of : Content → List A) (fs : List Frame) (f : Frame) → flat_map (λ (g : Frame). of (content g)) (fs ++ f ∷ [])
    ≡ flat_map (λ (g : Frame). of (content g)) fs ++ of (content f)
more of fs f = sym (flat_map_more (λ (g : Frame). of (content g)) [] fs f)

-- ---- what they come to

module _ (hs : List Hello) (ks : List Ack) (os : List Opening) (ts ns : List ℕ) (cs ds : List Chunk) where
  by_content : (c : Content) → received_of (hs ++ hellos_in c) (ks ++ acks_in c) (os ++ openings_in c) (ts ++ tokens_in c) (ns ++ numbers_in c)
      (cs ++ chunks_in c) (ds ++ closings_in c) ≡ after (received_of hs ks os ts ns cs ds) c
  by_content (Greets hello) = rw (append-nil ks, append-nil os, append-nil ts, append-nil ns, append-nil cs, append-nil ds, latest_listed hs hello) refl
  by_content (Acks ack) = rw (append-nil hs, append-nil os, append-nil ts, append-nil ns, append-nil cs, append-nil ds, latest_listed ks ack) refl
  by_content (Fails error) = rw (append-nil hs, append-nil ks, append-nil os, append-nil ts, append-nil ns, append-nil cs, append-nil ds) refl
  by_content (Opens o) = rw (append-nil hs, append-nil ks, append-nil ts, append-nil cs, append-nil ds, latest_number ns o.numbers) refl
  by_content (Sends c) = rw (append-nil hs, append-nil ks, append-nil os, append-nil ds, behind_push None ts c.token, behind_push None ns c.sequence) refl
  by_content (Closes c) = rw (
    append-nil hs,
    append-nil ks,
    append-nil os,
    append-nil cs,
    behind_push None ts c.token,
    behind_push None ns c.sequence,
    some_push ds c,
  ) refl
  by_content Nothing = rw (append-nil hs, append-nil ks, append-nil os, append-nil ts, append-nil ns, append-nil cs, append-nil ds) refl

-- what was received with one frame more is what that frame makes of what was received before
pub received-push : (fs : List Frame) (f : Frame) → received (fs ++ f ∷ []) ≡ after (received fs) (content f)
unfolding received hellos acks openings used_tokens numbers messages closings
received-push fs f =
    rw (more hellos_in fs f, more acks_in fs f, more openings_in fs f, more tokens_in fs f, more numbers_in fs f, more chunks_in fs f, more closings_in fs f)
    (by_content (hellos fs) (acks fs) (openings fs) (used_tokens fs) (numbers fs) (messages fs) (closings fs) (content f))

pub received-nil : received [] ≡ nothing_received
unfolding received hellos acks openings used_tokens numbers messages closings
received-nil = refl

-- nothing is delivered before any frame
pub none_delivered : delivered (received []).messages ≡ []
unfolding each_after
none_delivered = ap (λ (b : Received). delivered b.messages) received-nil

-- ---- what is found in what frames tell

-- what the chunk of a frame delivers, if it carries one
abbrev pub given_in : Received → Content → List Item
given_in b (Sends c) = given b.messages c
given_in b other = []

delivered_then : (b : Received) (c : Content) → delivered (after b c).messages ≡ delivered b.messages ++ given_in b c
delivered_then b (Greets hello) = sym (append-nil (delivered b.messages))
delivered_then b (Acks ack) = sym (append-nil (delivered b.messages))
delivered_then b (Fails error) = sym (append-nil (delivered b.messages))
delivered_then b (Opens o) = sym (append-nil (delivered b.messages))
delivered_then b (Sends c) = delivered_push b.messages c
delivered_then b (Closes c) = sym (append-nil (delivered b.messages))
delivered_then b Nothing = sym (append-nil (delivered b.messages))

-- where in what each frame tells is found what its chunk delivers, under a name
module _ {E B : Type 0} (found : List E → List B) (name : Item → B) (tells : Received → Content → List E) (nothing : found [] ≡ []) (apart : (ts us : List E)
    → found (ts ++ us) ≡ found ts ++ found us)
    (one : (b : Received) (c : Content) → found (tells b c) ≡ map name (given_in b c)) where
  abbrev named : List Frame → List B
  named frames = map name (delivered (received frames).messages)

  found_from : (start fs : List Frame) → named start ++ found (each_from (λ us f. tells (received us) (content f)) start fs) ≡ named (start ++ fs)
  found_from start [] = ap (λ (t : List B). named start ++ t) nothing ∙ (append-nil (named start) ∙ ap (λ (us : List Frame). named us) (sym (append-nil start)))
  found_from start (f ∷ fs) =
      let told : List E = tells (received start) (content f) in
      let more : List E = each_from (λ us g. tells (received us) (content g)) (start ++ f ∷ []) fs in
      let now : named start ++ found told ≡ named (start ++ f ∷ []) =
      ap (λ (t : List B). named start ++ t) (one (received start) (content f))
      ∙ (sym (map-append name (delivered (received start).messages) (given_in (received start) (content f)))
      ∙ ap (map name) (sym (delivered_then (received start) (content f)) ∙ ap (λ (b : Received). delivered b.messages) (sym (received-push start f)))) in
      ap (λ (t : List B). named start ++ t) (apart told more)
      ∙ (sym (append_assoc (named start) (found told) (found more))
      ∙ (ap (λ (t : List B). t ++ found more) now ∙ (found_from (start ++ f ∷ []) fs ∙ ap (λ (us : List Frame). named us) (append_assoc start (f ∷ []) fs))))

  -- in what all tell is found what all chunks deliver
  pub found_all : (frames : List Frame) → found (each_from (λ us f. tells (received us) (content f)) [] frames) ≡ named frames
  found_all frames = ap (λ (items : List Item). map name items ++ found (each_from (λ us f. tells (received us) (content f)) [] frames)) (sym none_delivered)
      ∙ found_from [] frames
