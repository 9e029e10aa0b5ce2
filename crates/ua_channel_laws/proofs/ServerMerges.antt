-- That a server reads merged messages with renewals among them from where it stands, what they tell it, and where it stands behind them.
use Rattle.std.proofs.Common.{◌≡◌, ℕ, ◌+◌, ◌≤◌, true, false, leb, List, [], ◌∷◌, ◌++◌, Option, Some, None}
use Rattle.std.proofs.Common.{length, map, refl, sym, ◌∙◌, ap, arith, append-nil, append_assoc, length-append}
use Rattle.std.specs.List.{filter, range_with_len}
use Rattle.std.proofs.lemmas.Bool.{and_from, eq-eqb, le-leb}
use Rattle.std.proofs.lemmas.List.Concat.{flat_map-append}
use Rattle.ua_frame.specs.declared.frame.Frame.{Frame}
use Rattle.ua_frame.specs.declared.limits.Limits.{Limits}
use Rattle.ua_frame.specs.After.{AllFrom, each_from}
use Rattle.ua_frame.specs.Frames.{frame_size, frames_octets}
use Rattle.ua_frame.specs.Run.{Fits, events}
use Rattle.ua_opening.specs.declared.secure_channel.OpenRequest.{OpenRequest}
use Rattle.ua_chunk.specs.declared.chunk.Chunk.{Chunk}
use Rattle.ua_chunk.specs.Delivered.{given}
use Rattle.ua_chunk.specs.Item.{Item}
use Rattle.ua_chunk.specs.Item.Item.{Whole, Aborted}
use Rattle.ua_chunk.specs.Merge.{Sent, is_item_of, outcome_under, outcomes, sent_under}
use Rattle.ua_chunk.specs.Open.{open_ids}
use Rattle.ua_chunk.specs.Sequence.{may_follow}
use Rattle.ua_channel.specs.Content.{Content, Opening, content}
use Rattle.ua_channel.specs.Content.Content.{Opens, Sends}
use Rattle.ua_channel_laws.specs.Conversation.{IsGoodRequest, IsOrderOpen, MayCarry}
use Rattle.ua_channel_laws.specs.Merges.{CarriesEither, IsChunkHere, MayComeNext, ServerMerge, ended_by, is_message_under}
use Rattle.ua_channel_laws.specs.Merges.{latest_or, told_by_merged, told_of_merge, token_issued, tokens_told, with_merged}
use Rattle.ua_channel.specs.Received.{Received, after, chunks_in, messages, numbers, openings, openings_in, received, tokens_in, used_tokens}
use Rattle.ua_channel_laws.specs.ServerMessages.{message_in, message_of_item, messages_in}
use Rattle.ua_channel_laws.specs.ServerReads.{AtServer, ServerReads}
use Rattle.ua_channel.specs.ServerRefusals.{last_used}
use Rattle.ua_channel.specs.ServerRules.{receive_size, server_rules}
use Rattle.ua_channel.specs.ServerTold.{Told, issued, opened_by, request_behind, request_of, server_tells, told_under}
use Rattle.ua_channel.proofs.Askings.{range-append}
use Rattle.ua_channel_laws.proofs.MergedChunks.{Comes, EachEnds, closed_fresh, comes, given_fresh, outcomes_once, takes_fresh, told_new}
use Rattle.ua_channel_laws.proofs.MergedFrames.{all_told, at_end, each_along, goes_follows, goes_ordered, goes_small}
use Rattle.ua_channel_laws.proofs.MergedFrames.{latest_or-append, next_follows, of_either, openings-more, sized}
use Rattle.ua_channel_laws.proofs.ReadOn.{events_on, run_on}
use Rattle.ua_channel_laws.proofs.ServerConversing.{taken_open}
use Rattle.ua_channel_laws.proofs.ServerRuns.{reads_at}
use Rattle.ua_channel_laws.proofs.ServerMessages.{messages_delivered}

-- ---- tokens

no_tokens : (token : ℕ) (items : List Item) → tokens_told (map (told_under token) items) ≡ []
no_tokens token [] = refl
no_tokens token (Whole id octets ∷ items) = no_tokens token items
no_tokens token (Aborted id code reason ∷ items) = no_tokens token items

token_opened : (token : ℕ) (n : Option (ℕ × ℕ)) (body : List ℕ) (r : OpenRequest) → request_behind n body ≡ Some r
    → tokens_told (opened_by token n (request_behind n body)) ≡ token ∷ []
token_opened token None body r e = absurd cc
token_opened token (Some m) body r e = rw e

request_token : (channel count token : ℕ) (o : Opening) → IsGoodRequest channel count o → tokens_told (opened_by token o.numbers (request_of o)) ≡ token ∷ []
unfolding request_of
request_token channel count token o g = token_opened token o.numbers o.body g.request g.request_is

-- ---- messages of one request id

message_names : (id : ℕ) (d : Item) → is_message_under id (message_of_item d) ≡ is_item_of id d
message_names id (Whole i octets) = refl
message_names id (Aborted i code reason) = refl

-- ---- where a server is among the frames of a merge

-- what was received is where a server is behind frames of a merge that used these tokens, and had these openings and chunks
record Place (at : AtServer) (base : List Chunk) (b : Received) (ts : List ℕ) (os : List Opening) (cs : List Chunk) : Type 0 where
  hello_is : b.hello ≡ Some at.hello
  goes_on : b.closed ≡ false
  issued_is : issued b ≡ at.issued + length os
  used_is : last_used b ≡ latest_or at.used ts
  messages_are : b.messages ≡ base ++ cs

module _ (limits : Limits) (channel : ℕ) (at : AtServer) (base : List Chunk) where
  -- what a frame of a merge may be behind those before it
  abbrev Carries : List Frame → Content → Type 0
  Carries us k = CarriesEither (IsGoodRequest channel (with_merged at us at.next).issued) (IsChunkHere channel (with_merged at us at.next)) k

  abbrev May : List Frame → Frame → Type 0
  May us f = (frame_size f ≤ receive_size limits (Some at.hello)) × Carries us (content f)

  abbrev Here : Received → List ℕ → List Opening → List Chunk → Type 0
  Here b ts os cs = Place at base b ts os cs

  by_either : (us : List Frame) (P : Content → Type 0) → ((o : Opening) → IsGoodRequest channel (at.issued + length (openings us)) o → P (Opens o))
      → ((c : Chunk) → IsChunkHere channel (with_merged at us at.next) c → P (Sends c)) → (k : Content) → Carries us k → P k
  by_either us P h g k may = of_either (IsGoodRequest channel (with_merged at us at.next).issued) (IsChunkHere channel (with_merged at us at.next)) P h g k may

  opened : (b : Received) (ts : List ℕ) (os : List Opening) (cs : List Chunk) (o : Opening) → Here b ts os cs
      → Here (after b (Opens o)) (ts ++ []) (os ++ o ∷ []) (cs ++ [])
  opened b ts os cs o p =
      rw (append-nil ts, append-nil cs)
      (record {
        hello_is = p.hello_is;
        goes_on = p.goes_on;
        issued_is = omega (arith, p.issued_is, length-append os (o ∷ []), length-append b.openings (o ∷ []));
        used_is = p.used_is;
        messages_are = p.messages_are;
      })

  sent : (b : Received) (ts : List ℕ) (os : List Opening) (cs : List Chunk) (c : Chunk) → Here b ts os cs
      → Here (after b (Sends c)) (ts ++ c.token ∷ []) (os ++ []) (cs ++ c ∷ [])
  sent b ts os cs c p =
      rw (append-nil os)
      (record {
        hello_is = p.hello_is;
        goes_on = p.goes_on;
        issued_is = p.issued_is;
        used_is = sym (latest_or-append at.used ts (c.token ∷ []));
        messages_are = rw p.messages_are (append_assoc base cs (c ∷ []));
      })

  step : (b : Received) (us : List Frame) (f : Frame) → May us f → Here b (used_tokens us) (openings us) (messages us)
      → Here (after b (content f)) (used_tokens us ++ tokens_in (content f)) (openings us ++ openings_in (content f)) (messages us ++ chunks_in (content f))
  step b us f may p =
      by_either us (λ (k : Content). Here (after b k) (used_tokens us ++ tokens_in k) (openings us ++ openings_in k) (messages us ++ chunks_in k))
      (λ o g. opened b (used_tokens us) (openings us) (messages us) o p) (λ c g. sent b (used_tokens us) (openings us) (messages us) c p)
      (content f) may.1

  order_from : (us fs : List Frame) → AllFrom May us fs → IsOrderOpen (map content fs)
  order_from us [] may = tt
  order_from us (f ∷ fs) may =
      by_either us (λ (k : Content). IsOrderOpen (k ∷ map content fs)) (λ o g. order_from (us ++ f ∷ []) fs may.1) (λ c g. order_from (us ++ f ∷ []) fs may.1)
      (content f) may.0.1

  carried : (us : List Frame) (b : Received) (k : Content) → Carries us k → Here b (used_tokens us) (openings us) (messages us) → MayCarry channel b k
  carried us b k may p =
      by_either us (λ (d : Content). MayCarry channel b d) (λ o g. rw p.issued_is g)
      (λ c g.
      record {
        on = eq-eqb c.channel channel g.0;
        taken =
            and_from (leb (last_used b) c.token) (leb c.token (issued b)) (le-leb (last_used b) c.token (omega (arith, p.used_is, g.1.not_before)))
            (le-leb c.token (issued b) (omega (arith, p.issued_is, g.1.issued)));
      }) k may

  tells : (ms : List Sent) (none : open_ids base ≡ []) (us : List Frame) (b : Received) (rest : List Chunk) (k : Content) → Carries us k
      → Here b (used_tokens us) (openings us) (messages us)
      → EachEnds ms (messages us) (chunks_in k ++ rest) → server_tells limits b k ≡ told_by_merged ms (at.issued + length (openings us)) k
  tells ms none us b rest k may p =
      by_either us (λ (d : Content). EachEnds ms (messages us) (chunks_in d ++ rest)
      → server_tells limits b d ≡ told_by_merged ms (at.issued + length (openings us)) d)
      (λ o g ends. ap (λ (n : ℕ). opened_by (n + 1) o.numbers (request_of o)) p.issued_is)
      (λ c g ends. ap (map (told_under c.token)) (rw p.messages_are (given_fresh base (messages us) c none ∙ ends.0))) k may

  token_at : (ms : List Sent) (us : List Frame) (n : ℕ) (k : Content) → Carries us k
      → tokens_told (told_by_merged ms n k) ≡ range_with_len (n + 1) (length (openings_in k))
  token_at ms us n k may =
      by_either us (λ (d : Content). tokens_told (told_by_merged ms n d) ≡ range_with_len (n + 1) (length (openings_in d)))
      (λ o g. request_token channel (at.issued + length (openings us)) (n + 1) o g)
      (λ c g. no_tokens c.token (ended_by ms c)) k may

  -- each opening has one token more told
  tokens_from : (ms : List Sent) (us fs : List Frame) → AllFrom May us fs
      → tokens_told (each_from (λ vs f. told_by_merged ms (at.issued + length (openings vs)) (content f)) us fs)
      ≡ range_with_len ((at.issued + length (openings us)) + 1) (length (openings fs))
  unfolding openings
  tokens_from ms us [] may = refl
  tokens_from ms us (f ∷ fs) may =
      let here : List ℕ = range_with_len ((at.issued + length (openings us)) + 1) (length (openings_in (content f))) in
      let later : List Told = each_from (λ vs g. told_by_merged ms (at.issued + length (openings vs)) (content g)) (us ++ f ∷ []) fs in
      let next : (at.issued + length (openings (us ++ f ∷ []))) + 1 ≡ ((at.issued + length (openings us)) + 1) + length (openings_in (content f)) =
      omega (arith, ap length (openings-more us f), length-append (openings us) (openings_in (content f))) in
      flat_map-append token_issued (told_by_merged ms (at.issued + length (openings us)) (content f)) later
      ∙ (rw (token_at ms us (at.issued + length (openings us)) (content f) may.0.1, tokens_from ms (us ++ f ∷ []) fs may.1, next)
      (range-append ((at.issued + length (openings us)) + 1) (length (openings_in (content f))) (length (openings fs))
      ∙ ap (range_with_len ((at.issued + length (openings us)) + 1)) (sym (length-append (openings_in (content f)) (openings fs)))))

-- ---- the law

no_openings : (n : ℕ) → n + length (openings []) ≡ n
unfolding openings
no_openings n = omega arith

module _ (limits : Limits) (channel : ℕ) (octets : List ℕ) (told : List Told) (stood : AtServer) (start : ℕ) (ms : List Sent) (more : List Frame) (next : ℕ)
    (r : ServerReads limits channel octets told stood) (n : MayComeNext (server_rules limits channel) octets start)
    (m : ServerMerge limits channel (record stood { next = start }) ms more next) where
  abbrev at : AtServer
  at = record stood { next = start }

  follows : may_follow (received r.frames).last start ≡ true
  follows = next_follows (server_rules limits channel) octets r.frames start r.run n

  abbrev base : List Chunk
  base = (received r.frames).messages

  merge : Comes limits ms (messages more)
  merge = comes limits ms (messages more) m.merged

  may : AllFrom (May limits channel at base) [] more
  may = sized (receive_size limits (Some at.hello)) (λ us f. Carries limits channel at base us (content f)) [] more m.fits m.carries

  first : Place at base (received r.frames) [] [] []
  first = record {
    hello_is = r.hello_is;
    goes_on = r.run.ends.0;
    issued_is = omega (arith, r.issued_is);
    used_is = r.used_is;
    messages_are = sym (append-nil base);
  }

  there : Place at base (received (r.frames ++ more)) (used_tokens more) (openings more) (messages more)
  there = at_end r.frames (Place at base) (May limits channel at base) (step limits channel at base) more first may

  fit : AllFrom (Fits (server_rules limits channel)) r.frames more
  fit =
      taken_open limits channel at.hello r.frames more r.run.ends.0 r.hello_is (omega (arith, m.is_open, r.issued_is))
      (order_from limits channel at base [] more may) m.framed
      (each_along r.frames (Place at base) (May limits channel at base) (step limits channel at base) more first may (λ us c. given us c ≡ ended_by ms c)
      merge.each
      (λ us f. frame_size f ≤ receive_size limits (received us).hello)
      (λ us f rest can p ends. rw p.hello_is can.0))
      (each_along r.frames (Place at base) (May limits channel at base) (step limits channel at base) more first may (λ us c. given us c ≡ ended_by ms c)
      merge.each
      (λ us f. MayCarry channel (received us) (content f))
      (λ us f rest can p ends. carried limits channel at base us (received (r.frames ++ us)) (content f) can.1 p))
      (goes_ordered (received r.frames).last start next (numbers more) follows m.numbered)
      (rw (← append-nil base) (takes_fresh limits.max_message_size limits.max_chunk_count base [] (messages more) r.none_open merge.taken))

  told_here : each_from (server_rules limits channel).tells r.frames more ≡ told_of_merge ms at.issued more
  told_here =
      all_told r.frames (Place at base) (May limits channel at base) (step limits channel at base) more first may (λ us c. given us c ≡ ended_by ms c)
      merge.each (server_rules limits channel).tells
      (λ us f. told_by_merged ms (at.issued + length (openings us)) (content f))
      (λ us f rest can p ends. tells limits channel at base ms r.none_open us (received (r.frames ++ us)) rest (content f) can.1 p ends)

  tells_all : events (server_rules limits channel) (r.frames ++ more) ≡ told ++ told_of_merge ms at.issued more
  tells_all =
      events_on (server_rules limits channel) r.frames more
      ∙ (rw (r.told_is, told_here))

  pub reads_merged : ServerReads limits channel (octets ++ frames_octets more) (told ++ told_of_merge ms at.issued more) (with_merged at more next)
  reads_merged =
      reads_at (r.frames ++ more) (run_on (server_rules limits channel) octets r.frames more r.run fit there.goes_on) tells_all
      (rw (there.hello_is, there.issued_is, there.used_is) refl) (goes_follows r.frames more start next follows m.numbered)
      (goes_small start next (numbers more) m.numbered) (ap open_ids there.messages_are ∙ closed_fresh base (messages more) r.none_open merge.none_open)

  pub reads_messages : messages_in (told_of_merge ms at.issued more) ≡ map message_of_item (outcomes ms (messages more))
  reads_messages =
      told_new messages_in message_of_item told (told_of_merge ms at.issued more) base (messages more) (outcomes ms (messages more))
      (flat_map-append message_in told (told_of_merge ms at.issued more)) r.none_open merge.all
      (ap messages_in (sym r.told_is) ∙ messages_delivered limits channel r.frames)
      (ap messages_in (sym tells_all)
      ∙ (messages_delivered limits channel (r.frames ++ more) ∙ rw there.messages_are))

  pub reads_once : (id : ℕ) → filter (is_message_under id) (messages_in (told_of_merge ms at.issued more))
      ≡ map message_of_item (outcome_under (sent_under id ms))
  reads_once id = ap (filter (is_message_under id)) reads_messages ∙ outcomes_once limits ms (messages more) m.merged message_of_item (is_message_under id) id
      (message_names id)

  pub reads_tokens : tokens_told (told_of_merge ms at.issued more) ≡ range_with_len (at.issued + 1) (length (openings more))
  reads_tokens = tokens_from limits channel at base ms [] more may ∙ rw (no_openings at.issued)
