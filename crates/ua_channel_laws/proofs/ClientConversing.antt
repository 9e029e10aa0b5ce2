-- That the frames which a client takes are those of a conversation.
use Rattle.std.proofs.Common.{◌≡◌, ℕ, Bool, true, false, IsTrue, not, leb, List, [], ◌∷◌, ◌++◌, Option, Some, None, map, refl, sym, ◌∙◌, ap, ◌≤◌}
use Rattle.std.proofs.lemmas.Bool.{not-false, not_from_true}
use Rattle.std.specs.List.{AllByRecursion}
use Rattle.std.specs.Prelude.{◌↔◌}
use Rattle.ua_builtin.specs.Reasons.{first_reason, renamed_reason}
use Rattle.ua_builtin.proofs.FirstReasons.{first_behind, first_reason-map}
use Rattle.ua_frame.specs.declared.ack.Ack.{Ack}
use Rattle.ua_frame.specs.declared.frame.Frame.{Frame}
use Rattle.ua_frame.specs.declared.kind.Kind.{Kind}
use Rattle.ua_frame.specs.declared.kind.Kind.TheVariants.{Hel, Msg, Opn, Clo}
use Rattle.ua_frame.specs.declared.kind.Kind.TheVariants as kind
use Rattle.ua_frame.specs.declared.limits.Limits.{Limits}
use Rattle.ua_frame.specs.After.{AllAfter, AllFrom}
use Rattle.ua_frame.specs.Frames.{Frames, frame_size}
use Rattle.ua_frame.specs.Kinds.{lets_in}
use Rattle.ua_frame.specs.Messages.{ack}
use Rattle.ua_frame.specs.FirstWrong.{FirstWrong}
use Rattle.ua_frame.specs.Run.{End, Fits, Going, Over, Run, Stopped}
use Rattle.ua_frame.proofs.FirstWrongs.{first_of_stop, stop_of_first}
use Rattle.ua_frame.proofs.Readings.{reading}
use Rattle.ua_frame.proofs.Unique.{unique}
use Rattle.ua_frame.specs.Whole.{whole_of}
use Rattle.ua_opening.specs.declared.open.OpenAnswer.{OpenAnswer}
use Rattle.ua_opening.specs.declared.open.OpenAnswer.TheVariants.{Open, Fault}
use Rattle.ua_opening.specs.declared.secure_channel.OpenResponse.{OpenResponse}
use Rattle.ua_chunk.specs.declared.chunk.Chunk.{Chunk}
use Rattle.ua_chunk.specs.Layout.{chunk_in}
use Rattle.ua_chunk.specs.Opening.{is_none_policy, policy_of}
use Rattle.ua_chunk.specs.Refusal.{message_refusal, reasons, chunk_refusal, TakesMessages}
use Rattle.ua_chunk.specs.Sequence.{may_follow}
use Rattle.ua_chunk.proofs.Numbers.{apart}
use Rattle.ua_channel.specs.Asks.{Asking, Placed, asked_before, end_of, is_in, pending_calls}
use Rattle.ua_channel_laws.specs.ClientConversation.{ClientConversation, ClientContinues, IsClientConversation, IsClientOrder, IsGoodReply}
use Rattle.ua_channel_laws.specs.ClientConversation.{IsGoodResponse, IsOrderAgreed, IsClientOrderOpen, MayCarryBack, largest_taken}
use Rattle.ua_channel.specs.inside.ClientParts.{why_of}
use Rattle.ua_channel.specs.ClientTable.{client_gate, client_reasons, client_rules, client_gate_behind}
use Rattle.ua_channel.specs.ClientTable.{is_awaited, is_bad_answer, is_other, of_numbers, of_response}
use Rattle.ua_channel.specs.ClientTokens.{answer_behind, answer_in, first_channel, held_tokens, opened_ids, open_responses}
use Rattle.ua_channel.specs.ClientTold.{Why, ours}
use Rattle.ua_channel.specs.Content.{Content, Opening, content, content_by, opening_of, sends}
use Rattle.ua_channel.specs.Content.Content.{Greets, Acks, Fails, Opens, Sends, Closes, Nothing}
use Rattle.ua_channel_laws.specs.Conversation.{AreOrdered, IsFramed}
use Rattle.ua_channel.specs.Received.{Received, after, messages, number_listed, numbers, or_before, received}
use Rattle.ua_channel.proofs.ClientChunks.{accepts}
use Rattle.ua_channel_laws.proofs.ClientTakes.{judged_reply}
use Rattle.ua_channel.proofs.ClientTalks.{no_responses, responses-push}
use Rattle.ua_channel.specs.Refusals.{of_header}
use Rattle.ua_channel_laws.proofs.Conversing.{Converses, InOrder, IsGoodFrame, MessageFits, content_kind, converse, fit_first, follow_numbers, in_order}
use Rattle.ua_channel_laws.proofs.Conversing.{none_first, none_named, none_then, numbers_follow, ordered_first, out_of_order, some_there, taken, before_none}
use Rattle.ua_channel.proofs.OneFrameMore.{received-nil, received-push}
use Rattle.ua_channel_laws.proofs.PairedCalls.{none_holds}

-- ---- an OPN

good_answer : (a : OpenAnswer) → is_bad_answer (Some a) ≡ false → (r : OpenResponse) × (a ≡ Open r)
    × (leb 0x8000_0000 r.response_header.service_result.code ≡ false)
good_answer (Open r) e = (r, refl, e)
good_answer (Fault f) e = absurd cc

numbers_by : (n : Option (ℕ × ℕ)) (body : List ℕ) (a : OpenAnswer) → answer_behind n body ≡ Some a → (m : ℕ × ℕ) × (n ≡ Some m)
numbers_by None body a e = absurd cc
numbers_by (Some n) body a e = (n, refl)

numbers_there : (o : Opening) (a : OpenAnswer) → answer_in o ≡ Some a → (n : ℕ × ℕ) × (o.numbers ≡ Some n)
unfolding answer_in
numbers_there o a e = numbers_by o.numbers o.body a e

-- for a channel and tokens that are the same, and where more is waited for
pub response_as : (n m : Option ℕ) (ts us : List ℕ) (awaits more : ℕ → Bool) (o : Opening) → n ≡ m → ts ≡ us → ((id : ℕ) → awaits id ≡ true → more id ≡ true)
    → IsGoodResponse n ts awaits o → IsGoodResponse m us more o
response_as n m ts us awaits more o p q wait g = record {
  header = g.header;
  security_is = g.security_is;
  policy = g.policy;
  response = g.response;
  answer_is = g.answer_is;
  good = g.good;
  on = rw (sym p) g.on;
  fresh = ap (is_in g.response.token_id) (sym q) ∙ g.fresh;
  numbered = g.numbered;
  numbers_are = g.numbers_are;
  awaited = wait g.numbered.1 g.awaited;
}

module _ (limits : Limits) (asked : List Asking) (b : Received) where
  abbrev IsResponse : Opening → Type 0
  IsResponse o = IsGoodResponse (first_channel (open_responses b.openings)) (held_tokens b)
      (is_awaited (open_responses b.openings) (opened_ids b.openings) asked) o

  abbrev IsReply : Chunk → Type 0
  IsReply c = IsGoodReply (first_channel (open_responses b.openings)) (held_tokens b) (pending_calls b.messages asked) c

  response_good : (o : Opening) → first_reason (client_reasons limits b asked (Opens o)) ≡ None → IsResponse o
  response_good o e =
      let all = none_holds (client_reasons limits b asked (Opens o)) e in
      let header = some_there o.security all.0 in
      let answer = some_there (answer_in o) all.1.1.1.0 in
      let found = good_answer answer.0 (ap is_bad_answer (sym answer.1) ∙ all.1.1.1.1.0) in
      let is : answer_in o ≡ Some (Open found.0) = answer.1 ∙ ap (λ (a : OpenAnswer). Some a) found.1 in
      let numbers = numbers_there o (Open found.0) is in
      record {
        header = header.0;
        security_is = header.1;
        policy = not-false (is_none_policy (policy_of header.0)) (ap (of_header (λ h. not (is_none_policy (policy_of h)))) (sym header.1) ∙ all.1.1.0);
        response = found.0;
        answer_is = is;
        good = found.2;
        on = ap (of_response (λ r. is_other (first_channel (open_responses b.openings)) r.channel_id)) (sym is) ∙ all.1.1.1.1.1.0;
        fresh = ap (of_response (λ r. is_in r.token_id (held_tokens b))) (sym is) ∙ all.1.1.1.1.1.1.0;
        numbered = numbers.0;
        numbers_are = numbers.1;
        awaited =
            not-false (is_awaited (open_responses b.openings) (opened_ids b.openings) asked numbers.0.1)
            (ap (of_numbers (λ n. not (is_awaited (open_responses b.openings) (opened_ids b.openings) asked n.1))) (sym numbers.1)
            ∙ all.1.1.1.1.1.1.1.1.1.1.1.1.0);
      }

  response_follows : (o : Opening) → first_reason (client_reasons limits b asked (Opens o)) ≡ None → AreOrdered b.last (number_listed o.numbers)
  response_follows o e = numbers_follow b.last o.numbers (none_holds (client_reasons limits b asked (Opens o)) e).1.1.1.1.1.1.1.0

  response_taken : (o : Opening) → IsResponse o → AreOrdered b.last (number_listed o.numbers) → first_reason (client_reasons limits b asked (Opens o)) ≡ None
  unfolding answer_in
  response_taken o g follow =
      let waited : of_numbers (λ n. not (is_awaited (open_responses b.openings) (opened_ids b.openings) asked n.1)) o.numbers ≡ false =
      ap (of_numbers (λ n. not (is_awaited (open_responses b.openings) (opened_ids b.openings) asked n.1))) g.numbers_are
      ∙ not_from_true (is_awaited (open_responses b.openings) (opened_ids b.openings) asked g.numbered.1) g.awaited in
      rw (g.security_is, g.policy, g.answer_is, g.good, g.on, g.fresh, follow_numbers b.last o.numbers follow, waited) refl

  -- ---- a chunk

  abbrev ids_of : Chunk → List (Why × Bool)
  ids_of c = (ours 0x807F_0000, is_other (first_channel (open_responses b.openings)) c.channel) ∷ (ours 0x8087_0000, not (is_in c.token (held_tokens b))) ∷ []

  abbrev rows_of : Chunk → List (Why × Bool)
  rows_of c = map (renamed_reason why_of) (reasons limits.max_message_size limits.max_chunk_count b.last b.messages c)

  abbrev unasked_of : Chunk → List (Why × Bool)
  unasked_of c = (ours 0x8009_0000, not (is_in c.request (pending_calls b.messages asked))) ∷ []

  reply_good : (c : Chunk) → first_reason (client_reasons limits b asked (Sends c)) ≡ None → IsReply c
  reply_good c e =
      let all = sym (judged_reply limits asked b c) ∙ e in
      let ids = none_holds (ids_of c) (none_first (ids_of c) (rows_of c ++ unasked_of c) all) in
      let last = none_holds (unasked_of c) (none_then (rows_of c) (unasked_of c) (none_then (ids_of c) (rows_of c ++ unasked_of c) all)) in
      record {
        on = ids.0;
        held = not-false (is_in c.token (held_tokens b)) ids.1.0;
        awaited = not-false (is_in c.request (pending_calls b.messages asked)) last.0;
      }

  reply_apart : (c : Chunk) → first_reason (client_reasons limits b asked (Sends c)) ≡ None → (may_follow b.last c.sequence ≡ true)
      × (message_refusal limits.max_message_size limits.max_chunk_count b.messages c ≡ None)
  reply_apart c e =
      let all = sym (judged_reply limits asked b c) ∙ e in
      (apart limits.max_message_size limits.max_chunk_count b.last b.messages c).0
      (none_named why_of (chunk_refusal limits.max_message_size limits.max_chunk_count b.last b.messages c)
      (sym (first_reason-map why_of (reasons limits.max_message_size limits.max_chunk_count b.last b.messages c))
      ∙ none_first (rows_of c) (unasked_of c) (none_then (ids_of c) (rows_of c ++ unasked_of c) all)))

  reply_taken : (c : Chunk) → IsReply c → may_follow b.last c.sequence ≡ true → message_refusal limits.max_message_size limits.max_chunk_count b.messages c
      ≡ None → first_reason (client_reasons limits b asked (Sends c)) ≡ None
  reply_taken c g follows good =
      let ids : first_reason (ids_of c) ≡ None = rw (g.on, g.held) refl in
      let asks : first_reason (unasked_of c) ≡ None = rw g.awaited refl in
      judged_reply limits asked b c
      ∙ (first_behind (ids_of c) (rows_of c ++ unasked_of c) ids
      ∙ (first_behind (rows_of c) (unasked_of c)
      (accepts (reasons limits.max_message_size limits.max_chunk_count b.last b.messages c)
      ((apart limits.max_message_size limits.max_chunk_count b.last b.messages c).1 (follows, good))) ∙ asks))

-- ---- one frame

good : (limits : Limits) (asked : List Asking) (b : Received) (c : Content) → first_reason (client_reasons limits b asked c) ≡ None
    → IsGoodFrame (MayCarryBack limits b asked c) limits b c
unfolding MessageFits
good limits asked b (Greets hello) e = record { carries = tt; ordered = tt; message = tt }
good limits asked b (Acks None) e = absurd cc
good limits asked b (Acks (Some a)) e =
    record {
      carries = record { said = a; reads = refl; within = (none_holds (client_reasons limits b asked (Acks (Some a))) e).1.0 };
      ordered = tt;
      message = tt;
    }
good limits asked b (Fails None) e = absurd cc
good limits asked b (Fails (Some error)) e = absurd cc
good limits asked b (Opens o) e = record { carries = response_good limits asked b o e; ordered = response_follows limits asked b o e; message = tt }
good limits asked b (Sends c) e =
    let both = reply_apart limits asked b c e in
    record { carries = reply_good limits asked b c e; ordered = (both.0, tt); message = both.1 }
good limits asked b (Closes c) e =
    record {
      carries = tt;
      ordered = (not-false (may_follow b.last c.sequence) (none_holds (client_reasons limits b asked (Closes c)) e).1.1.1.1.1.1.1.0, tt);
      message = tt;
    }
good limits asked b Nothing e = record { carries = tt; ordered = tt; message = tt }

accepted : (limits : Limits) (asked : List Asking) (b : Received) (c : Content) → IsGoodFrame (MayCarryBack limits b asked c) limits b c
    → first_reason (client_reasons limits b asked c) ≡ None
unfolding MessageFits
accepted limits asked b (Greets hello) g = refl
accepted limits asked b (Acks ack) g = rw (g.carries.reads, g.carries.within) refl
accepted limits asked b (Fails error) g = absurd g.carries
accepted limits asked b (Opens o) g = response_taken limits asked b o g.carries g.ordered
accepted limits asked b (Sends c) g = reply_taken limits asked b c g.carries g.ordered.0 g.message
accepted limits asked b (Closes c) g = rw (not_from_true (may_follow b.last c.sequence) g.ordered.0)
accepted limits asked b Nothing g = refl

-- ---- the order

-- what may come, by the Acknowledge, and by the responses
abbrev order_by : Option Ack → List OpenResponse → List Kind → Type 0
order_by None rs ks = IsClientOrder ks
order_by (Some a) [] ks = IsOrderAgreed ks
order_by (Some a) (r ∷ rs) ks = IsClientOrderOpen ks

abbrev Order : Received → List Kind → Type 0
Order b ks = order_by b.ack (open_responses b.openings) ks

-- responses come behind an Acknowledge
abbrev pub IsPlaced : Received → Type 0
IsPlaced b = b.ack ≡ None → open_responses b.openings ≡ []

order_is : (b : Received) (ks : List Kind) (o : Option Ack) (rs : List OpenResponse) → b.ack ≡ o → open_responses b.openings ≡ rs
    → Order b ks ↔ order_by o rs ks
order_is b ks o rs q r = rw (← q, ← r) (λ h. h, λ h. h)

nil_by : (o : Option Ack) (rs : List OpenResponse) → order_by o rs []
nil_by None rs = tt
nil_by (Some a) [] = tt
nil_by (Some a) (r ∷ rs) = tt

some_open : (a : Ack) (rs : List OpenResponse) (n : ℕ) (ks : List Kind) → first_channel rs ≡ Some n → IsClientOrderOpen ks → order_by (Some a) rs ks
some_open a [] n ks e order = absurd cc
some_open a (r ∷ rs) n ks e order = order

module _ (limits : Limits) (asked : List Asking) (b : Received) (f : Frame) (ks : List Kind) where
  more_responses : (rs : List OpenResponse) (g : IsResponse limits asked b (opening_of f.body)) → open_responses b.openings ≡ rs
      → open_responses (b.openings ++ opening_of f.body ∷ []) ≡ rs ++ g.response ∷ []
  more_responses rs g r = responses-push b.openings (opening_of f.body) g.response g.answer_is ∙ rw r

  msg_order : (found : Option Chunk) (o : Option Ack) (rs : List OpenResponse) → b.ack ≡ o → open_responses b.openings ≡ rs
      → Order (after b (sends found)) ks ↔ order_by o rs ks
  msg_order None o rs q r = order_is b ks o rs q r
  msg_order (Some c) o rs q r = order_is (after b (Sends c)) ks o rs q r

  -- a frame comes in order exactly where it is let in
  order_here : (o : Option Ack) (rs : List OpenResponse) (k : Kind) → b.ack ≡ o → open_responses b.openings ≡ rs → IsPlaced b
      → MayCarryBack limits b asked (content_by k f) → InOrder (client_gate_behind o rs) k (Order (after b (content_by k f)) ks) (order_by o rs (k ∷ ks))
  order_here None rs Hel q r placed may = out_of_order (λ e. cc) (λ e. e)
  order_here None rs kind.Ack q r placed may =
      in_order refl (order_is (after b (Acks (whole_of ack f.body))) ks (Some may.said) [] (ap (or_before b.ack) may.reads) (placed q))
  order_here None rs kind.Err q r placed may = absurd may
  order_here None rs Msg q r placed may = out_of_order (λ e. cc) (λ e. e)
  order_here None rs Opn q r placed may = out_of_order (λ e. cc) (λ e. e)
  order_here None rs Clo q r placed may = out_of_order (λ e. cc) (λ e. e)
  order_here (Some a) [] Hel q r placed may = out_of_order (λ e. cc) (λ e. e)
  order_here (Some a) [] kind.Ack q r placed may = out_of_order (λ e. cc) (λ e. e)
  order_here (Some a) [] kind.Err q r placed may = absurd may
  order_here (Some a) [] Msg q r placed may = out_of_order (λ e. cc) (λ e. e)
  order_here (Some a) [] Opn q r placed may =
      in_order refl (order_is (after b (Opens (opening_of f.body))) ks (Some a) (may.response ∷ []) q (more_responses [] may r))
  order_here (Some a) [] Clo q r placed may = out_of_order (λ e. cc) (λ e. e)
  order_here (Some a) (p ∷ ps) Hel q r placed may = out_of_order (λ e. cc) (λ e. e)
  order_here (Some a) (p ∷ ps) kind.Ack q r placed may = out_of_order (λ e. cc) (λ e. e)
  order_here (Some a) (p ∷ ps) kind.Err q r placed may = absurd may
  order_here (Some a) (p ∷ ps) Msg q r placed may = in_order refl (msg_order (chunk_in f) (Some a) (p ∷ ps) q r)
  order_here (Some a) (p ∷ ps) Opn q r placed may =
      in_order refl (order_is (after b (Opens (opening_of f.body))) ks (Some a) (p ∷ (ps ++ may.response ∷ [])) q (more_responses (p ∷ ps) may r))
  order_here (Some a) (p ∷ ps) Clo q r placed may = out_of_order (λ e. cc) (λ e. e)

-- no CLO is let in
pub no_close : (o : Option Ack) (rs : List OpenResponse) → IsTrue (lets_in (client_gate_behind o rs) Clo) → ⊥
no_close None rs h = absurd cc
no_close (Some a) [] h = absurd cc
no_close (Some a) (r ∷ rs) h = absurd cc

-- ---- from some frames on

gate_largest : (o : Option Ack) (rs : List OpenResponse) → (client_gate_behind o rs).largest ≡ largest_taken o
gate_largest None rs = refl
gate_largest (Some a) [] = refl
gate_largest (Some a) (r ∷ rs) = refl

-- where responses come behind an Acknowledge, they do so with a frame more
chunk_placed : (b : Received) (found : Option Chunk) → (b.ack ≡ None → open_responses b.openings ≡ []) → (after b (sends found)).ack ≡ None
    → open_responses (after b (sends found)).openings ≡ []
chunk_placed b None placed none = placed none
chunk_placed b (Some c) placed none = placed none

opn_some : (o : Option Ack) (rs : List OpenResponse) → IsTrue (lets_in (client_gate_behind o rs) Opn) → o ≡ None → ⊥
opn_some None rs kind e = absurd cc
opn_some (Some a) rs kind e = absurd cc

placed_more : (b : Received) (f : Frame) (k : Kind) → IsPlaced b → IsTrue (lets_in (client_gate b) k) → IsPlaced (after b (content_by k f))
placed_more b f Hel placed kind none = placed none
placed_more b f kind.Ack placed kind none = placed (before_none b.ack (whole_of ack f.body) none)
placed_more b f kind.Err placed kind none = placed none
placed_more b f Msg placed kind none = chunk_placed b (chunk_in f) placed none
placed_more b f Opn placed kind none = absurd (opn_some b.ack (open_responses b.openings) kind none)
placed_more b f Clo placed kind none = absurd (no_close b.ack (open_responses b.openings) kind)

module _ (limits : Limits) (asks : List Placed) where
  pub placed_next : (start : List Frame) (f : Frame) → IsPlaced (received start) → IsTrue (lets_in (client_gate (received start)) f.kind)
      → IsPlaced (received (start ++ f ∷ []))
  placed_next start f placed kind = rw (received-push start f ∙ ap (after (received start)) (content_kind f))
      (placed_more (received start) f f.kind placed kind)

  order_frame : (asked : List Asking) (b : Received) (f : Frame) (ks : List Kind) → IsPlaced b → MayCarryBack limits b asked (content f)
      → InOrder (client_gate b) f.kind (Order (after b (content f)) ks) (Order b (f.kind ∷ ks))
  order_frame asked b f ks placed =
      rw (content_kind f) (order_here limits asked b f ks b.ack (open_responses b.openings) f.kind refl refl placed)

  rules_converse : Converses (client_rules limits asks) limits (λ (f : Frame). f.kind) Order IsPlaced (λ b. largest_taken b.ack)
      (λ before f. MayCarryBack limits (received before) (asked_before (end_of before f) asks) (content f))
  rules_converse = record {
    order_nil = λ b. nil_by b.ack (open_responses b.openings);
    goes_on = λ start f later order. refl;
    largest = λ start. gate_largest (received start).ack (open_responses (received start).openings);
    placed = placed_next;
    in_order = λ start f later on. order_frame (asked_before (end_of start f) asks) (received start) f later;
    good = λ start f. good limits (asked_before (end_of start f) asks) (received start) (content f);
    accepted = λ start f. accepted limits (asked_before (end_of start f) asks) (received start) (content f);
  }

  -- frames that come in order behind others where a channel is open, as they may come there, are taken
  pub taken_open : (a : Ack) (n : ℕ) (start fs : List Frame) → (received start).ack ≡ Some a → first_channel (open_responses (received start).openings) ≡ Some n
      → IsClientOrderOpen (map (λ (f : Frame). f.kind) fs)
      → AllByRecursion IsFramed fs → AllFrom (λ us f. frame_size f ≤ largest_taken (received us).ack) start fs
      → AllFrom (λ us f. MayCarryBack limits (received us) (asked_before (end_of us f) asks) (content f)) start fs
      → AreOrdered (received start).last (numbers fs)
      → TakesMessages limits.max_message_size limits.max_chunk_count (received start).messages (messages fs)
      → AllFrom (Fits (client_rules limits asks)) start fs
  taken_open a n start fs said there order framed fits carries ordered fit =
      taken (client_rules limits asks) limits (λ (f : Frame). f.kind) Order IsPlaced (λ b. largest_taken b.ack)
      (λ before f. MayCarryBack limits (received before) (asked_before (end_of before f) asks) (content f)) rules_converse start fs
      (λ none. let never : Some a ≡ None = sym said ∙ none in absurd cc)
      (record {
        order =
            (order_is (received start) (map (λ (f : Frame). f.kind) fs) (Some a) (open_responses (received start).openings) said refl).1
            (some_open a (open_responses (received start).openings) n (map (λ (f : Frame). f.kind) fs) there order);
        framed = framed;
        fits = fits;
        carries = carries;
        ordered = ordered;
        messages_fit = fit;
      })

  nothing_there : open_responses (received []).openings ≡ []
  nothing_there = rw received-nil no_responses

  pub nothing_placed : IsPlaced (received [])
  nothing_placed none = nothing_there

  nothing_order : (frames : List Frame) → Order (received []) (map (λ (f : Frame). f.kind) frames) ↔ order_by None [] (map (λ (f : Frame). f.kind) frames)
  nothing_order frames = order_is (received []) (map (λ (f : Frame). f.kind) frames) None [] (rw received-nil) nothing_there

  -- the frames that a client takes are those of a conversation, or the beginning of one
  pub converses : (frames : List Frame) → AllAfter (Fits (client_rules limits asks)) frames ↔ ClientConversation limits asks frames
  unfolding AllAfter
  converses frames = (
    λ fits.
        let c = converse (client_rules limits asks) limits (λ (f : Frame). f.kind) Order IsPlaced (λ b. largest_taken b.ack)
        (λ before f. MayCarryBack limits (received before) (asked_before (end_of before f) asks) (content f)) rules_converse [] frames nothing_placed fits
        in
        record {
          order = (nothing_order frames).0 c.order;
          framed = c.framed;
          fits = c.fits;
          carries = c.carries;
          ordered = (ordered_first (numbers frames)).0 c.ordered;
          messages_fit = (fit_first limits (messages frames)).0 c.messages_fit;
        },
    λ h.
        taken (client_rules limits asks) limits (λ (f : Frame). f.kind) Order IsPlaced (λ b. largest_taken b.ack)
        (λ before f. MayCarryBack limits (received before) (asked_before (end_of before f) asks) (content f)) rules_converse [] frames nothing_placed
        (record {
          order = (nothing_order frames).1 h.order;
          framed = h.framed;
          fits = h.fits;
          carries = h.carries;
          ordered = (ordered_first (numbers frames)).1 h.ordered;
          messages_fit = (fit_first limits (messages frames)).1 h.messages_fit;
        }),
  )

-- ---- octets without a wrong frame

pub continues : (limits : Limits) (asks : List Placed) (octets : List ℕ) (frames : List Frame) (rest : List ℕ)
    → Run (client_rules limits asks) octets frames rest Going ↔ ClientContinues limits asks octets frames rest
continues limits asks octets frames rest = (
  λ r. record { whole = r.whole; converses = (converses limits asks frames).0 r.good; partial = r.ends.1 },
  λ c. record { whole = c.whole; good = (converses limits asks frames).1 c.converses; ends = (refl, c.partial) },
)

converses_by : (limits : Limits) (asks : List Placed) (octets : List ℕ) (frames : List Frame) (rest : List ℕ) (end : End Why)
    → Run (client_rules limits asks) octets frames rest end → ((why : Why) → end ≡ Stopped why → ⊥) → IsClientConversation limits asks octets
converses_by limits asks octets frames rest Going run never = record { frames = frames; rest = rest; is = (continues limits asks octets frames rest).0 run }
converses_by limits asks octets frames rest (Stopped why) run never = absurd (never why refl)
converses_by limits asks octets frames rest Over run never =
    let ends : false ≡ true = run.ends in
    absurd cc

-- there is no wrong frame exactly where the octets are a conversation
pub none_wrong : (limits : Limits) (asks : List Placed) (octets : List ℕ) (raws : List (List ℕ)) (rest : List ℕ) → Frames octets raws rest
    → ((why : Why) → FirstWrong (client_rules limits asks) raws rest why → ⊥) ↔ IsClientConversation limits asks octets
none_wrong limits asks octets raws rest framed = (
  λ never.
      let r = reading (client_rules limits asks) octets in
      converses_by limits asks octets r.frames r.rest r.end r.run
      (λ why e.
      never why
      (first_of_stop (client_rules limits asks) octets raws rest why framed
      (record { frames = r.frames; rest = r.rest; run = rw (← e) r.run }))),
  λ c why wrong.
      let s = stop_of_first (client_rules limits asks) octets raws rest why framed wrong in
      let ends : Stopped why ≡ Going =
      (unique (client_rules limits asks) octets s.frames c.frames s.rest c.rest (Stopped why) Going s.run
      ((continues limits asks octets c.frames c.rest).1 c.is)).ends in
      cc,
)
