-- That the frames which a server takes are those of a conversation.
use Rattle.std.proofs.Common.{◌≡◌, ◌⊎◌, inl, inr, ℕ, zero, suc, pos, int_eq, Bool, true, false, IsTrue, not, ◌&&◌, ◌||◌, eqb, ltb, List, []}
use Rattle.std.proofs.Common.{◌∷◌, ◌++◌, Option, Some, None, option_map, map, refl, sym, ◌∙◌, ap, subst, arith, length-append, ◌<◌, ◌≤◌}
use Rattle.std.proofs.lemmas.Bool.{not-false, not_from_true}
use Rattle.std.specs.List.{AllByRecursion}
use Rattle.std.specs.Prelude.{◌↔◌}
use Rattle.ua_builtin.specs.Reasons.{first_reason, renamed_reason}
use Rattle.ua_builtin.proofs.FirstReasons.{first_behind, first_reason-map}
use Rattle.ua_frame.specs.declared.frame.Frame.{Frame}
use Rattle.ua_frame.specs.declared.hello.Hello.{Hello}
use Rattle.ua_frame.specs.declared.kind.Kind.{Kind}
use Rattle.ua_frame.specs.declared.kind.Kind.TheVariants.{Hel, Msg, Opn, Clo}
use Rattle.ua_frame.specs.declared.kind.Kind.TheVariants as kind
use Rattle.ua_frame.specs.declared.limits.Limits.{Limits}
use Rattle.ua_frame.specs.After.{AllAfter, AllFrom}
use Rattle.ua_frame.specs.Agreement.{is_buffer_small, is_url_long}
use Rattle.ua_frame.specs.Frames.{Frames, frame_size}
use Rattle.ua_frame.specs.Hello.{hello_in}
use Rattle.ua_frame.specs.Kinds.{lets_in}
use Rattle.ua_frame.specs.FirstWrong.{FirstWrong}
use Rattle.ua_frame.specs.Laws.{Stops}
use Rattle.ua_frame.specs.Run.{End, Fits, Going, Over, Run, Stopped}
use Rattle.ua_frame.proofs.FirstWrongs.{first_of_stop, stop_of_first}
use Rattle.ua_frame.proofs.Readings.{reading}
use Rattle.ua_frame.proofs.Unique.{unique}
use Rattle.ua_chunk.specs.declared.chunk.Chunk.{Chunk}
use Rattle.ua_chunk.specs.Layout.{chunk_in}
use Rattle.ua_chunk.specs.Opening.{SecurityHeader, channel_of_header, is_none_policy, policy_of}
use Rattle.ua_chunk.specs.Refusal.{message_refusal, reasons, chunk_refusal, TakesMessages}
use Rattle.ua_chunk.specs.Sequence.{may_follow}
use Rattle.ua_chunk.proofs.Numbers.{apart}
use Rattle.ua_channel.specs.Content.{Content, Opening, content, content_by, closes, opening_of, sends}
use Rattle.ua_channel.specs.Content.Content.{Greets, Acks, Fails, Opens, Sends, Closes, Nothing}
use Rattle.ua_channel_laws.specs.Conversation.{AreOrdered, Continues, HasEnded, IsConversation, IsGoodChunk, IsGoodRequest}
use Rattle.ua_channel_laws.specs.Conversation.{IsOrderGreeted, IsOrderOpen, IsServerOrder, MayCarry, ServerConversation, IsFramed}
use Rattle.ua_channel.specs.Received.{Received, after, messages, number_listed, numbers, or_before, received}
use Rattle.ua_channel.specs.inside.ServerParts.{ids_reasons}
use Rattle.ua_channel.specs.ServerRefusals.{is_taken, last_used, of_header, of_request, server_reasons, type_wanted}
use Rattle.ua_channel.specs.ServerRules.{server_gate_behind, receive_size, running_gate, server_gate, server_rules}
use Rattle.ua_channel.specs.ServerTold.{issued, request_of}
use Rattle.ua_channel_laws.proofs.Conversing.{Converses, InOrder, IsGoodFrame, MessageFits, content_kind, converse, fit_first, follow_numbers, in_order}
use Rattle.ua_channel_laws.proofs.Conversing.{none_first, none_named, none_then, numbers_follow, ordered_first, out_of_order, some_there, taken, before_none}
use Rattle.ua_channel.proofs.OneFrameMore.{received-nil, received-push}
use Rattle.ua_channel.proofs.Phases.{greeted_by}
use Rattle.ua_channel_laws.proofs.PairedCalls.{none_holds}
use Rattle.ua_channel.proofs.Runs.{refused_code, judged_closes, judged_sends}
use Rattle.ua_channel_laws.proofs.Holding.{largest_behind}

-- ---- a HEL

hello_taken : (url small : Bool) → first_reason {A = ℕ} ((0x8083_0000, url) ∷ (0x8081_0000, small) ∷ []) ≡ None → (url ≡ false) × (small ≡ false)
hello_taken true small e = absurd cc
hello_taken false true e = absurd cc
hello_taken false false e = (refl, refl)

-- ---- an OPN

on_channel : (first same : Bool) → (not first && not same) ≡ false → (first || same) ≡ true
on_channel true same e = refl
on_channel false true e = refl
on_channel false false e = absurd cc

off_channel : (first same : Bool) → (first || same) ≡ true → (not first && not same) ≡ false
off_channel true same e = refl
off_channel false true e = refl
off_channel false false e = absurd cc

some_issued : (n : ℕ) → ltb 0 n ≡ not (eqb n 0)
some_issued n = grind arith

module _ (limits : Limits) (channel : ℕ) (b : Received) where
  request_good : (o : Opening) → first_reason (server_reasons limits channel b (Opens o)) ≡ None → IsGoodRequest channel (issued b) o
  request_good o e =
      let all = none_holds (server_reasons limits channel b (Opens o)) e in
      let header = some_there o.security all.0 in
      let request = some_there (request_of o) all.1.1.1.1.0 in
      record {
        header = header.0;
        security_is = header.1;
        policy = not-false (is_none_policy (policy_of header.0)) (ap (of_header (λ h. not (is_none_policy (policy_of h)))) (sym header.1) ∙ all.1.1.1.0);
        request = request.0;
        request_is = request.1;
        type_is = not-false (int_eq request.0.request_type (pos (type_wanted (issued b))))
            (ap (of_request (λ r. not (int_eq r.request_type (pos (type_wanted (issued b)))))) (sym request.1) ∙ all.1.1.1.1.1.0);
        mode_is = not-false (int_eq request.0.security_mode (pos 1)) (ap (of_request (λ r. not (int_eq r.security_mode (pos 1)))) (sym request.1)
            ∙ all.1.1.1.1.1.1.0);
        on =
            on_channel (eqb (issued b) 0) (eqb (channel_of_header header.0) channel)
            (rw (sym (some_issued (issued b)))
            (ap (λ (s : Option SecurityHeader). ltb 0 (issued b) && of_header (λ h. not (eqb (channel_of_header h) channel)) s) (sym header.1)
            ∙ all.1.1.1.1.1.1.1.0));
        left = all.1.1.1.1.1.1.1.1.1.1.1.1.1.1.0;
      }

  request_follows : (o : Opening) → first_reason (server_reasons limits channel b (Opens o)) ≡ None → AreOrdered b.last (number_listed o.numbers)
  request_follows o e = numbers_follow b.last o.numbers (none_holds (server_reasons limits channel b (Opens o)) e).1.1.1.1.1.1.1.1.1.0

  request_taken : (o : Opening) → IsGoodRequest channel (issued b) o → AreOrdered b.last (number_listed o.numbers)
      → first_reason (server_reasons limits channel b (Opens o)) ≡ None
  unfolding request_of
  request_taken o g follow =
      let other : (ltb 0 (issued b) && not (eqb (channel_of_header g.header) channel)) ≡ false =
      ap (λ (t : Bool). t && not (eqb (channel_of_header g.header) channel)) (some_issued (issued b))
      ∙ off_channel (eqb (issued b) 0) (eqb (channel_of_header g.header) channel) g.on in
      rw (g.security_is, g.policy, g.request_is, g.type_is, g.mode_is, other, follow_numbers b.last o.numbers follow, g.left) refl

  -- ---- a chunk

  ids_taken : (c : Chunk) → IsGoodChunk channel b c → first_reason (ids_reasons c channel (last_used b) (issued b)) ≡ None
  ids_taken c g = rw (g.on, g.taken) refl

  ids_good : (c : Chunk) → first_reason (ids_reasons c channel (last_used b) (issued b)) ≡ None → IsGoodChunk channel b c
  ids_good c e =
      let all = none_holds (ids_reasons c channel (last_used b) (issued b)) e in
      record { on = not-false (eqb c.channel channel) all.0; taken = not-false (is_taken b c.token) all.1.0 }

  abbrev rows_of : Chunk → List (ℕ × Bool)
  rows_of c = map (renamed_reason refused_code) (reasons limits.max_message_size limits.max_chunk_count b.last b.messages c)

  message_apart : (c : Chunk) → first_reason (server_reasons limits channel b (Sends c)) ≡ None → (may_follow b.last c.sequence ≡ true)
      × (message_refusal limits.max_message_size limits.max_chunk_count b.messages c ≡ None)
  message_apart c e =
      (apart limits.max_message_size limits.max_chunk_count b.last b.messages c).0
      (none_named refused_code (chunk_refusal limits.max_message_size limits.max_chunk_count b.last b.messages c)
      (sym (first_reason-map refused_code (reasons limits.max_message_size limits.max_chunk_count b.last b.messages c))
      ∙ none_then (ids_reasons c channel (last_used b) (issued b)) (rows_of c) (sym (judged_sends limits channel b c) ∙ e)))

  sends_split : (c : Chunk) → first_reason (server_reasons limits channel b (Sends c)) ≡ None → first_reason (ids_reasons c channel (last_used b) (issued b))
      ≡ None
  sends_split c e = none_first (ids_reasons c channel (last_used b) (issued b)) (rows_of c) (sym (judged_sends limits channel b c) ∙ e)

  message_taken : (c : Chunk) → IsGoodChunk channel b c → may_follow b.last c.sequence ≡ true
      → message_refusal limits.max_message_size limits.max_chunk_count b.messages c ≡ None → first_reason (server_reasons limits channel b (Sends c)) ≡ None
  message_taken c g follows good =
      judged_sends limits channel b c
      ∙ (first_behind (ids_reasons c channel (last_used b) (issued b)) (rows_of c) (ids_taken c g)
      ∙ (first_reason-map refused_code (reasons limits.max_message_size limits.max_chunk_count b.last b.messages c)
      ∙ ap (option_map refused_code) ((apart limits.max_message_size limits.max_chunk_count b.last b.messages c).1 (follows, good))))

-- ---- one frame

good : (limits : Limits) (channel : ℕ) (b : Received) (c : Content) → first_reason (server_reasons limits channel b c) ≡ None
    → IsGoodFrame (MayCarry channel b c) limits b c
unfolding MessageFits
good limits channel b (Greets None) e = absurd cc
good limits channel b (Greets (Some h)) e =
    let both = hello_taken (is_url_long h) (is_buffer_small h) e in
    record { carries = record { said = h; reads = refl; url = both.0; sizes = both.1 }; ordered = tt; message = tt }
good limits channel b (Acks ack) e = record { carries = tt; ordered = tt; message = tt }
good limits channel b (Fails error) e = record { carries = tt; ordered = tt; message = tt }
good limits channel b (Opens o) e = record { carries = request_good limits channel b o e; ordered = request_follows limits channel b o e; message = tt }
good limits channel b (Sends c) e =
    let both = message_apart limits channel b c e in
    record { carries = ids_good limits channel b c (sends_split limits channel b c e); ordered = (both.0, tt); message = both.1 }
good limits channel b (Closes c) e =
    let rows = sym (judged_closes limits channel b c) ∙ e in
    let last = (0x8088_0000, not (may_follow b.last c.sequence)) ∷ [] in
    record {
      carries = ids_good limits channel b c (none_first (ids_reasons c channel (last_used b) (issued b)) last rows);
      ordered = (not-false (may_follow b.last c.sequence) (none_holds last (none_then (ids_reasons c channel (last_used b) (issued b)) last rows)).0, tt);
      message = tt;
    }
good limits channel b Nothing e = record { carries = tt; ordered = tt; message = tt }

accepted : (limits : Limits) (channel : ℕ) (b : Received) (c : Content) → IsGoodFrame (MayCarry channel b c) limits b c
    → first_reason (server_reasons limits channel b c) ≡ None
unfolding MessageFits
accepted limits channel b (Greets hello) g = rw (g.carries.reads, g.carries.url, g.carries.sizes) refl
accepted limits channel b (Acks ack) g = refl
accepted limits channel b (Fails error) g = refl
accepted limits channel b (Opens o) g = request_taken limits channel b o g.carries g.ordered
accepted limits channel b (Sends c) g = message_taken limits channel b c g.carries g.ordered.0 g.message
accepted limits channel b (Closes c) g =
    judged_closes limits channel b c
    ∙ (first_behind (ids_reasons c channel (last_used b) (issued b)) ((0x8088_0000, not (may_follow b.last c.sequence)) ∷ [])
    (ids_taken limits channel b c g.carries)
    ∙ rw (not_from_true (may_follow b.last c.sequence) g.ordered.0))
accepted limits channel b Nothing g = refl

-- ---- the order

-- what may come, by whether a CLO came, by the Hello, and by the number of OPNs
abbrev order_by : Bool → Option Hello → ℕ → List Content → Type 0
order_by true hello n cs = cs ≡ []
order_by false None n cs = IsServerOrder cs
order_by false (Some h) zero cs = IsOrderGreeted cs
order_by false (Some h) (suc n) cs = IsOrderOpen cs

-- the same where this was received
abbrev Order : Received → List Content → Type 0
Order b cs = order_by b.closed b.hello (issued b) cs

-- OPNs come behind a Hello
abbrev pub IsPlaced : Received → Type 0
IsPlaced b = b.hello ≡ None → issued b ≡ 0

no_chunk : (found : Option Chunk) (cs : List Content) → (IsServerOrder (sends found ∷ cs) → ⊥) × (IsOrderGreeted (sends found ∷ cs) → ⊥)
no_chunk None cs = (λ h. h, λ h. h)
no_chunk (Some c) cs = (λ h. h, λ h. h)

no_close : (found : Option Chunk) (cs : List Content) → (IsServerOrder (closes found ∷ cs) → ⊥) × (IsOrderGreeted (closes found ∷ cs) → ⊥)
no_close None cs = (λ h. h, λ h. h)
no_close (Some c) cs = (λ h. h, λ h. h)

order_is : (b : Received) (cs : List Content) (closed : Bool) (o : Option Hello) (n : ℕ) → b.closed ≡ closed → b.hello ≡ o → issued b ≡ n
    → Order b cs ↔ order_by closed o n cs
order_is b cs closed o n p q r = rw (← p, ← q, ← r) (λ h. h, λ h. h)

nil_by : (closed : Bool) (o : Option Hello) (n : ℕ) → order_by closed o n []
nil_by true o n = refl
nil_by false None n = tt
nil_by false (Some h) zero = tt
nil_by false (Some h) (suc n) = tt

some_open : (h : Hello) (n : ℕ) (cs : List Content) → 0 < n → IsOrderOpen cs → order_by false (Some h) n cs
some_open h zero cs some order = absurd (omega (arith, some))
some_open h (suc n) cs some order = order

goes_by : (closed : Bool) (o : Option Hello) (n : ℕ) (c : Content) (cs : List Content) → order_by closed o n (c ∷ cs) → closed ≡ false
goes_by true o n c cs h = absurd cc
goes_by false o n c cs h = refl

one_issued : (b : Received) (p : Opening) (n : ℕ) → issued b ≡ n → issued (after b (Opens p)) ≡ suc n
one_issued b p n r = omega (arith, length-append b.openings (p ∷ []), r)

module _ (limits : Limits) (channel : ℕ) (b : Received) (f : Frame) (cs : List Content) (goes_on : b.closed ≡ false) where
  msg_order : (h : Hello) (n : ℕ) (found : Option Chunk) → b.hello ≡ Some h → issued b ≡ suc n
      → Order (after b (sends found)) cs ↔ order_by false (Some h) (suc n) (sends found ∷ cs)
  msg_order h n None q r = order_is b cs false (Some h) (suc n) goes_on q r
  msg_order h n (Some c) q r = order_is (after b (Sends c)) cs false (Some h) (suc n) goes_on q r

  clo_order : (h : Hello) (n : ℕ) (found : Option Chunk) → b.hello ≡ Some h → issued b ≡ suc n
      → Order (after b (closes found)) cs ↔ order_by false (Some h) (suc n) (closes found ∷ cs)
  clo_order h n None q r = order_is b cs false (Some h) (suc n) goes_on q r
  clo_order h n (Some c) q r = order_is (after b (Closes c)) cs true (Some h) (suc n) refl q r

  open_order : (h : Hello) (n : ℕ) (k : Kind) → b.hello ≡ Some h → issued b ≡ suc n
      → InOrder (running_gate (receive_size limits (Some h))) k (Order (after b (content_by k f)) cs) (order_by false (Some h) (suc n) (content_by k f ∷ cs))
  open_order h n Hel q r = out_of_order (λ e. cc) (λ e. e)
  open_order h n kind.Ack q r = out_of_order (λ e. cc) (λ e. e)
  open_order h n kind.Err q r = out_of_order (λ e. cc) (λ e. e)
  open_order h n Msg q r = in_order refl (msg_order h n (chunk_in f) q r)
  open_order h n Opn q r =
      in_order refl (order_is (after b (Opens (opening_of f.body))) cs false (Some h) (suc (suc n)) goes_on q (one_issued b (opening_of f.body) (suc n) r))
  open_order h n Clo q r = in_order refl (clo_order h n (chunk_in f) q r)

  -- a frame comes in order exactly where it is let in
  order_here : (o : Option Hello) (n : ℕ) (k : Kind) → b.hello ≡ o → issued b ≡ n → IsPlaced b → MayCarry channel b (content_by k f)
      → InOrder (server_gate_behind limits o n) k (Order (after b (content_by k f)) cs) (order_by false o n (content_by k f ∷ cs))
  order_here None n Hel q r placed may =
      in_order refl (order_is (after b (Greets (hello_in f.body))) cs false (Some may.said) zero goes_on (ap (or_before b.hello) may.reads) (placed q))
  order_here None n kind.Ack q r placed may = out_of_order (λ e. cc) (λ e. e)
  order_here None n kind.Err q r placed may = out_of_order (λ e. cc) (λ e. e)
  order_here None n Msg q r placed may = out_of_order (λ e. cc) (no_chunk (chunk_in f) cs).0
  order_here None n Opn q r placed may = out_of_order (λ e. cc) (λ e. e)
  order_here None n Clo q r placed may = out_of_order (λ e. cc) (no_close (chunk_in f) cs).0
  order_here (Some h) zero Hel q r placed may = out_of_order (λ e. cc) (λ e. e)
  order_here (Some h) zero kind.Ack q r placed may = out_of_order (λ e. cc) (λ e. e)
  order_here (Some h) zero kind.Err q r placed may = out_of_order (λ e. cc) (λ e. e)
  order_here (Some h) zero Msg q r placed may = out_of_order (λ e. cc) (no_chunk (chunk_in f) cs).1
  order_here (Some h) zero Opn q r placed may =
      in_order refl (order_is (after b (Opens (opening_of f.body))) cs false (Some h) (suc zero) goes_on q (one_issued b (opening_of f.body) zero r))
  order_here (Some h) zero Clo q r placed may = out_of_order (λ e. cc) (no_close (chunk_in f) cs).1
  order_here (Some h) (suc n) k q r placed may =
      rw (greeted_by (receive_size limits (Some h)) (suc n) (omega arith)) (open_order h n k q r)

-- ---- from some frames on

-- where OPNs come behind a Hello, they do so with a frame more
chunk_placed : (b : Received) (found : Option Chunk) → (b.hello ≡ None → issued b ≡ 0) → (after b (sends found)).hello ≡ None
    → issued (after b (sends found)) ≡ 0
chunk_placed b None placed none = placed none
chunk_placed b (Some c) placed none = placed none

close_placed : (b : Received) (found : Option Chunk) → (b.hello ≡ None → issued b ≡ 0) → (after b (closes found)).hello ≡ None
    → issued (after b (closes found)) ≡ 0
close_placed b None placed none = placed none
close_placed b (Some c) placed none = placed none

placed_more : (limits : Limits) (b : Received) (f : Frame) (k : Kind) (o : Option Hello) → b.hello ≡ o → IsPlaced b
    → IsTrue (lets_in (server_gate_behind limits o (issued b)) k) → IsPlaced (after b (content_by k f))
placed_more limits b f Hel o q placed kind none = placed (before_none b.hello (hello_in f.body) none)
placed_more limits b f kind.Ack o q placed kind none = placed none
placed_more limits b f kind.Err o q placed kind none = placed none
placed_more limits b f Msg o q placed kind none = chunk_placed b (chunk_in f) placed none
placed_more limits b f Opn None q placed kind none = absurd cc
placed_more limits b f Opn (Some h) q placed kind none = let never : Some h ≡ None = sym q ∙ none in absurd cc
placed_more limits b f Clo o q placed kind none = close_placed b (chunk_in f) placed none

module _ (limits : Limits) (channel : ℕ) where
  pub placed_next : (start : List Frame) (f : Frame) → IsPlaced (received start) → IsTrue (lets_in (server_gate limits (received start)) f.kind)
      → IsPlaced (received (start ++ f ∷ []))
  placed_next start f placed kind =
      rw (received-push start f ∙ ap (after (received start)) (content_kind f))
      (placed_more limits (received start) f f.kind (received start).hello refl placed kind)

  order_frame : (b : Received) (f : Frame) (cs : List Content) → b.closed ≡ false → IsPlaced b → MayCarry channel b (content f)
      → InOrder (server_gate limits b) f.kind (Order (after b (content f)) cs) (Order b (content f ∷ cs))
  order_frame b f cs e placed =
      rw (content_kind f) (λ may.
      subst (λ (t : Bool). InOrder (server_gate limits b) f.kind (Order (after b (content_by f.kind f)) cs)
      (order_by t b.hello (issued b) (content_by f.kind f ∷ cs))) (sym e)
      (order_here limits channel b f cs e b.hello (issued b) f.kind refl refl placed may))

  rules_converse : Converses (server_rules limits channel) limits content Order IsPlaced (λ b. receive_size limits b.hello)
      (λ before f. MayCarry channel (received before) (content f))
  rules_converse = record {
    order_nil = λ b. nil_by b.closed b.hello (issued b);
    goes_on = λ start f later. goes_by (received start).closed (received start).hello (issued (received start)) (content f) later;
    largest = λ start. largest_behind limits (received start).hello (issued (received start));
    placed = placed_next;
    in_order = λ start f later. order_frame (received start) f later;
    good = λ start f. good limits channel (received start) (content f);
    accepted = λ start f. accepted limits channel (received start) (content f);
  }

  -- frames that come in order behind others where a channel is open, as they may come there, are taken
  pub taken_open : (h : Hello) (start fs : List Frame) → (received start).closed ≡ false → (received start).hello ≡ Some h → 0 < issued (received start)
      → IsOrderOpen (map content fs)
      → AllByRecursion IsFramed fs → AllFrom (λ us f. frame_size f ≤ receive_size limits (received us).hello) start fs
      → AllFrom (λ us f. MayCarry channel (received us) (content f)) start fs
      → AreOrdered (received start).last (numbers fs) → TakesMessages limits.max_message_size limits.max_chunk_count (received start).messages (messages fs)
      → AllFrom (Fits (server_rules limits channel)) start fs
  taken_open h start fs on said some order framed fits carries ordered fit =
      taken (server_rules limits channel) limits content Order IsPlaced (λ b. receive_size limits b.hello)
      (λ before f. MayCarry channel (received before) (content f)) rules_converse start fs
      (λ none. let never : Some h ≡ None = sym said ∙ none in absurd cc)
      (record {
        order = (order_is (received start) (map content fs) false (Some h) (issued (received start)) on said refl).1
            (some_open h (issued (received start)) (map content fs) some order);
        framed = framed;
        fits = fits;
        carries = carries;
        ordered = ordered;
        messages_fit = fit;
      })

  pub nothing_placed : IsPlaced (received [])
  nothing_placed none = ap issued received-nil

  nothing_order : (frames : List Frame) → Order (received []) (map content frames) ↔ order_by false None 0 (map content frames)
  nothing_order frames = order_is (received []) (map content frames) false None 0 (rw received-nil)
      (rw received-nil) (ap issued received-nil)

  -- the frames that a server takes are those of a conversation, or the beginning of one
  pub converses : (frames : List Frame) → AllAfter (Fits (server_rules limits channel)) frames ↔ ServerConversation limits channel frames
  unfolding AllAfter
  converses frames = (
    λ fits.
        let c = converse (server_rules limits channel) limits content Order IsPlaced (λ b. receive_size limits b.hello)
        (λ before f. MayCarry channel (received before) (content f)) rules_converse [] frames nothing_placed fits in
        record {
          order = (nothing_order frames).0 c.order;
          framed = c.framed;
          fits = c.fits;
          carries = c.carries;
          ordered = (ordered_first (numbers frames)).0 c.ordered;
          messages_fit = (fit_first limits (messages frames)).0 c.messages_fit;
        },
    λ h.
        taken (server_rules limits channel) limits content Order IsPlaced (λ b. receive_size limits b.hello)
        (λ before f. MayCarry channel (received before) (content f)) rules_converse [] frames nothing_placed
        (record {
          order = (nothing_order frames).1 h.order;
          framed = h.framed;
          fits = h.fits;
          carries = h.carries;
          ordered = (ordered_first (numbers frames)).1 h.ordered;
          messages_fit = (fit_first limits (messages frames)).1 h.messages_fit;
        }),
  )

-- ---- octets without a wrong frame

pub continues : (limits : Limits) (channel : ℕ) (octets : List ℕ) (frames : List Frame) (rest : List ℕ)
    → Run (server_rules limits channel) octets frames rest Going ↔ Continues limits channel octets frames rest
continues limits channel octets frames rest = (
  λ r. record { whole = r.whole; converses = (converses limits channel frames).0 r.good; goes_on = r.ends.0; partial = r.ends.1 },
  λ c. record { whole = c.whole; good = (converses limits channel frames).1 c.converses; ends = (c.goes_on, c.partial) },
)

pub has_ended : (limits : Limits) (channel : ℕ) (octets : List ℕ) (frames : List Frame) (rest : List ℕ)
    → Run (server_rules limits channel) octets frames rest Over ↔ HasEnded limits channel octets frames rest
has_ended limits channel octets frames rest = (
  λ r. record { whole = r.whole; converses = (converses limits channel frames).0 r.good; closed = r.ends },
  λ c. record { whole = c.whole; good = (converses limits channel frames).1 c.converses; ends = c.closed },
)

converses_by : (limits : Limits) (channel : ℕ) (octets : List ℕ) (frames : List Frame) (rest : List ℕ) (end : End ℕ)
    → Run (server_rules limits channel) octets frames rest end → ((why : ℕ) → end ≡ Stopped why → ⊥) → IsConversation limits channel octets
converses_by limits channel octets frames rest Going run never =
    record { frames = frames; rest = rest; is = inl ((continues limits channel octets frames rest).0 run) }
converses_by limits channel octets frames rest (Stopped why) run never = absurd (never why refl)
converses_by limits channel octets frames rest Over run never =
    record { frames = frames; rest = rest; is = inr ((has_ended limits channel octets frames rest).0 run) }

never_stops : (limits : Limits) (channel : ℕ) (octets : List ℕ) (frames : List Frame) (rest : List ℕ) (why : ℕ) → Continues limits channel octets frames rest
    ⊎ HasEnded limits channel octets frames rest → Stops (server_rules limits channel) octets why → ⊥
never_stops limits channel octets frames rest why (inl c) s =
    let ends : Stopped why ≡ Going =
    (unique (server_rules limits channel) octets s.frames frames s.rest rest (Stopped why) Going s.run
    ((continues limits channel octets frames rest).1 c)).ends in
    cc
never_stops limits channel octets frames rest why (inr c) s =
    let ends : Stopped why ≡ Over =
    (unique (server_rules limits channel) octets s.frames frames s.rest rest (Stopped why) Over s.run
    ((has_ended limits channel octets frames rest).1 c)).ends in
    cc

-- there is no wrong frame exactly where the octets are a conversation
pub none_wrong : (limits : Limits) (channel : ℕ) (octets : List ℕ) (raws : List (List ℕ)) (rest : List ℕ) → Frames octets raws rest
    → ((why : ℕ) → FirstWrong (server_rules limits channel) raws rest why → ⊥) ↔ IsConversation limits channel octets
none_wrong limits channel octets raws rest framed = (
  λ never.
      let r = reading (server_rules limits channel) octets in
      converses_by limits channel octets r.frames r.rest r.end r.run
      (λ why e.
      never why
      (first_of_stop (server_rules limits channel) octets raws rest why framed
      (record { frames = r.frames; rest = r.rest; run = rw (← e) r.run }))),
  λ c why wrong. never_stops limits channel octets c.frames c.rest why c.is (stop_of_first (server_rules limits channel) octets raws rest why framed wrong),
)
