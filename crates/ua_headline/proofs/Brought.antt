-- What frames brought a client, by what they told it: the ACK, the channel and the newest token; the first frames brought the same of it ks all.
use Rattle.std.proofs.Common.{◌≡◌, ℕ, ◌+◌, ◌==◌, ◌&&◌, not, Bool, true, false, List, [], ◌∷◌, ◌++◌, map, Option, Some, None, refl, sym, ◌∙◌, ap, append-nil}
use Rattle.std.specs.Prelude.{if◌then◌else◌}
use Rattle.std.proofs.lemmas.List.Concat.{flat_map-append}
use Rattle.ua_chunk.proofs.Lists.{map_push}
use Rattle.ua_chunk.specs.Delivered.{given}
use Rattle.ua_chunk.specs.Item.{Item}
use Rattle.ua_chunk.specs.Item.Item.{Whole, Aborted}
use Rattle.ua_frame.specs.After.{each_after, each_from}
use Rattle.ua_frame.specs.Run.{events}
use Rattle.ua_frame.specs.declared.ack.Ack.{Ack}
use Rattle.ua_frame.specs.declared.frame.Frame.{Frame}
use Rattle.ua_frame.specs.declared.limits.Limits.{Limits}
use Rattle.ua_opening.specs.declared.secure_channel.OpenResponse.{OpenResponse}
use Rattle.ua_channel.specs.Asks.{Placed, is_in}
use Rattle.ua_channel.specs.ClientTable.{client_rules}
use Rattle.ua_channel.specs.ClientTokens.{answer_in, first_channel, from_last, held_by, held_tokens, open_responses, response_listed, tokens_of}
use Rattle.ua_channel.specs.ClientTold.{ClientTold, ClientTold as heard, client_tells, told_item, told_response}
use Rattle.ua_channel.specs.Content.{Content, Opening, content}
use Rattle.ua_channel.specs.Content.Content.{Greets, Acks, Fails, Opens, Sends, Closes, Nothing}
use Rattle.ua_headline.specs.Headline.{tokens_in}
use Rattle.ua_channel.specs.Received.{Received, acks, acks_in, latest, openings, openings_in, received}

-- ---- what was told

-- the ACKs of which a client was told
abbrev pub acks_told : List ClientTold → List Ack
acks_told [] = []
acks_told (heard.Agreed ack ∷ told) = ack ∷ acks_told told
acks_told (other ∷ told) = acks_told told

pub acks_append : (us vs : List ClientTold) → acks_told (us ++ vs) ≡ acks_told us ++ acks_told vs
acks_append [] vs = refl
acks_append (heard.Agreed ack ∷ us) vs = ap (λ (ks : List Ack). ack ∷ ks) (acks_append us vs)
acks_append (heard.Opened channel token ∷ us) vs = acks_append us vs
acks_append (heard.Answered id octets ∷ us) vs = acks_append us vs
acks_append (heard.GaveUp id code ∷ us) vs = acks_append us vs
acks_append (heard.Renewed token ∷ us) vs = acks_append us vs

pub tokens_append : (us vs : List ClientTold) → tokens_in (us ++ vs) ≡ tokens_in us ++ tokens_in vs
tokens_append [] vs = refl
tokens_append (heard.Agreed ack ∷ us) vs = tokens_append us vs
tokens_append (heard.Opened channel token ∷ us) vs = ap (λ (ts : List ℕ). token ∷ ts) (tokens_append us vs)
tokens_append (heard.Answered id octets ∷ us) vs = tokens_append us vs
tokens_append (heard.GaveUp id code ∷ us) vs = tokens_append us vs
tokens_append (heard.Renewed token ∷ us) vs = ap (λ (ts : List ℕ). token ∷ ts) (tokens_append us vs)

-- ---- of one frame

acks_items : (items : List Item) → acks_told (map told_item items) ≡ []
acks_items [] = refl
acks_items (Whole id octets ∷ items) = acks_items items
acks_items (Aborted id code reason ∷ items) = acks_items items

acks_responses : (before : List OpenResponse) (rs : List OpenResponse) → acks_told (map (told_response before) rs) ≡ []
acks_responses before [] = refl
acks_responses [] (r ∷ rs) = acks_responses [] rs
acks_responses (q ∷ qs) (r ∷ rs) = acks_responses (q ∷ qs) rs

acks_of : (before : Received) (c : Content) → acks_told (client_tells before c) ≡ acks_in c
acks_of before (Greets hello) = refl
acks_of before (Acks None) = refl
acks_of before (Acks (Some a)) = refl
acks_of before (Fails error) = refl
acks_of before (Opens o) = acks_responses (open_responses before.openings) (response_listed (answer_in o))
acks_of before (Sends c) = acks_items (given before.messages c)
acks_of before (Closes c) = refl
acks_of before Nothing = refl

tokens_items : (items : List Item) → tokens_in (map told_item items) ≡ []
tokens_items [] = refl
tokens_items (Whole id octets ∷ items) = tokens_items items
tokens_items (Aborted id code reason ∷ items) = tokens_items items

tokens_responses : (before : List OpenResponse) (rs : List OpenResponse) → tokens_in (map (told_response before) rs) ≡ tokens_of rs
unfolding tokens_of
tokens_responses before [] = refl
tokens_responses [] (r ∷ rs) = ap (λ (ts : List ℕ). r.token_id ∷ ts) (tokens_responses [] rs)
tokens_responses (q ∷ qs) (r ∷ rs) = ap (λ (ts : List ℕ). r.token_id ∷ ts) (tokens_responses (q ∷ qs) rs)

none_opened : tokens_of (open_responses []) ≡ []
unfolding open_responses tokens_of
none_opened = refl

one_opened : (o : Opening) → open_responses (o ∷ []) ≡ response_listed (answer_in o)
unfolding open_responses
one_opened o = append-nil (response_listed (answer_in o))

tokens_of_one : (before : Received) (c : Content) → tokens_in (client_tells before c) ≡ tokens_of (open_responses (openings_in c))
tokens_of_one before (Greets hello) = sym none_opened
tokens_of_one before (Acks None) = sym none_opened
tokens_of_one before (Acks (Some a)) = sym none_opened
tokens_of_one before (Fails error) = sym none_opened
tokens_of_one before (Opens o) = tokens_responses (open_responses before.openings) (response_listed (answer_in o)) ∙ ap tokens_of (sym (one_opened o))
tokens_of_one before (Sends c) = tokens_items (given before.messages c) ∙ sym none_opened
tokens_of_one before (Closes c) = sym none_opened
tokens_of_one before Nothing = sym none_opened

-- ---- of frames

pub responses_append : (os ps : List Opening) → open_responses (os ++ ps) ≡ open_responses os ++ open_responses ps
unfolding open_responses
responses_append os ps = flat_map-append (λ (o : Opening). response_listed (answer_in o)) os ps

tokens_of_append : (rs qs : List OpenResponse) → tokens_of (rs ++ qs) ≡ tokens_of rs ++ tokens_of qs
unfolding tokens_of
tokens_of_append rs qs = map_push (λ (r : OpenResponse). r.token_id) rs qs

pub openings_append : (fs gs : List Frame) → openings (fs ++ gs) ≡ openings fs ++ openings gs
unfolding openings
openings_append fs gs = flat_map-append (λ (f : Frame). openings_in (content f)) fs gs

openings_first : (f : Frame) (fs : List Frame) → openings (f ∷ fs) ≡ openings_in (content f) ++ openings fs
unfolding openings
openings_first f fs = refl

no_openings : openings [] ≡ []
unfolding openings
no_openings = refl

module _ (limits : Limits) (asks : List Placed) where
  acks_from : (start fs : List Frame) → acks_told (each_from (client_rules limits asks).tells start fs) ≡ acks fs
  unfolding acks
  acks_from start [] = refl
  acks_from start (f ∷ fs) =
      acks_append (client_tells (received start) (content f)) (each_from (client_rules limits asks).tells (start ++ f ∷ []) fs)
      ∙ (ap (λ (ks : List Ack). ks ++ acks_told (each_from (client_rules limits asks).tells (start ++ f ∷ []) fs)) (acks_of (received start) (content f))
      ∙ ap (λ (ks : List Ack). acks_in (content f) ++ ks) (acks_from (start ++ f ∷ []) fs))

  tokens_from : (start fs : List Frame) → tokens_in (each_from (client_rules limits asks).tells start fs) ≡ tokens_of (open_responses (openings fs))
  tokens_from start [] = sym (ap (λ (os : List Opening). tokens_of (open_responses os)) no_openings ∙ none_opened)
  tokens_from start (f ∷ fs) =
      tokens_append (client_tells (received start) (content f)) (each_from (client_rules limits asks).tells (start ++ f ∷ []) fs)
      ∙ (ap (λ (ts : List ℕ). ts ++ tokens_in (each_from (client_rules limits asks).tells (start ++ f ∷ []) fs)) (tokens_of_one (received start) (content f))
      ∙ (ap (λ (ts : List ℕ). tokens_of (open_responses (openings_in (content f))) ++ ts) (tokens_from (start ++ f ∷ []) fs)
      ∙ sym (ap (λ (os : List Opening). tokens_of (open_responses os)) (openings_first f fs)
      ∙ (ap tokens_of (responses_append (openings_in (content f)) (openings fs))
      ∙ tokens_of_append (open_responses (openings_in (content f))) (open_responses (openings fs))))))

  -- the ACK is the last of which it was told
  pub ack_told : (fs : List Frame) → (received fs).ack ≡ latest (acks_told (events (client_rules limits asks) fs))
  unfolding received each_after
  ack_told fs = ap latest (sym (acks_from [] fs))

  -- and the tokens are those of which it was told
  pub tokens_are_told : (fs : List Frame) → tokens_of (open_responses (received fs).openings) ≡ tokens_in (events (client_rules limits asks) fs)
  unfolding received each_after
  tokens_are_told fs = sym (tokens_from [] fs)

-- ---- the newest token

latest_more : {A : Type 0} (m x : A) (ms : List A) → latest ms ≡ Some x → latest (m ∷ ms) ≡ Some x
latest_more m x [] e = absurd cc
latest_more m x (n ∷ ms) e = e

latest_from : (k x : ℕ) (ms : List ℕ) → latest (from_last k ms) ≡ Some x → latest ms ≡ Some x
latest_from k x [] e = e
latest_from k x (m ∷ ms) e = by (m == k && not (is_in k ms)) e (latest_from k x ms)
  where
    by : (b : Bool) → latest (if b then m ∷ ms else from_last k ms) ≡ Some x → (latest (from_last k ms) ≡ Some x → latest ms ≡ Some x)
        → latest (m ∷ ms) ≡ Some x
    by true f further = f
    by false f further = latest_more m x ms (further f)

latest_held : (used : Option ℕ) (x : ℕ) (ms : List ℕ) → latest (held_by used ms) ≡ Some x → latest ms ≡ Some x
latest_held None x ms e = e
latest_held (Some k) x ms e = latest_from k x ms e

-- the newest token that is held is the last of all
pub newest_last : (before : Received) (x : ℕ) → latest (held_tokens before) ≡ Some x → latest (tokens_of (open_responses before.openings)) ≡ Some x
unfolding held_tokens
newest_last before x e = latest_held before.used x (tokens_of (open_responses before.openings)) e

-- ---- the channel

first_more : (rs qs : List OpenResponse) (x : ℕ) → first_channel rs ≡ Some x → first_channel (rs ++ qs) ≡ Some x
first_more [] qs x e = absurd cc
first_more (r ∷ rs) qs x e = e

-- the channel that the first frames brought is that of all
pub channel_stays : (fs gs : List Frame) (x : ℕ) → first_channel (open_responses (received fs).openings) ≡ Some x
    → first_channel (open_responses (received (fs ++ gs)).openings) ≡ Some x
unfolding received
channel_stays fs gs x e =
    ap first_channel (ap open_responses (openings_append fs gs) ∙ responses_append (openings fs) (openings gs))
    ∙ first_more (open_responses (openings fs)) (open_responses (openings gs)) x e
