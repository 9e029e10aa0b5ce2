-- That a server stands as its laws say it behind any good frames, where its channel is open and no message is unfinished.
use Rattle.std.proofs.Common.{◌≡◌, ℕ, ◌+◌, ◌<◌, ◌≤◌, ◌^◌, Bool, true, false, IsTrue, ◌&&◌, ◌||◌, leb, ltb, List, [], ◌∷◌, ◌++◌}
use Rattle.std.proofs.Common.{Option, Some, None, length, sym, ◌∙◌, ap, arith, append-nil, append_assoc, length-append}
use Rattle.std.proofs.lemmas.Bool.{and_parts, eqb-false, leb-true, ltb-false}
use Rattle.ua_wire.proofs.Readers.{some_is}
use Rattle.ua_frame.specs.After.{AllAfter, AllFrom}
use Rattle.ua_frame.specs.Hello.{hello_in}
use Rattle.ua_frame.specs.Messages.{hello}
use Rattle.ua_frame.specs.Run.{Fits, Going, Run, events}
use Rattle.ua_frame.specs.declared.frame.Frame.{Frame}
use Rattle.ua_frame.specs.declared.hello.Hello.{Hello}
use Rattle.ua_frame.specs.declared.kind.Kind.{Kind}
use Rattle.ua_frame.specs.declared.kind.Kind.TheVariants.{Hel, Msg, Opn, Clo}
use Rattle.ua_frame.specs.declared.kind.Kind.TheVariants as kind
use Rattle.ua_frame.specs.declared.limits.Limits.{Limits}
use Rattle.ua_frame.proofs.MessagesLawful.{sound_hello}
use Rattle.ua_frame.proofs.Wholes.{encodes_whole}
use Rattle.ua_chunk.specs.Layout.{chunk_in}
use Rattle.ua_chunk.specs.Open.{open_ids}
use Rattle.ua_chunk.specs.Sequence.{follows, may_follow}
use Rattle.ua_chunk.specs.declared.chunk.Chunk.{Chunk}
use Rattle.ua_channel.specs.Content.{Opening, closes, content, content_by, opening_of, sends}
use Rattle.ua_channel.specs.Content.Content.{Greets, Opens}
use Rattle.ua_channel_laws.specs.Conversation.{IsGoodHello, IsGoodRequest, MayCarry}
use Rattle.ua_channel.specs.Received.{Received, after, or_before, received}
use Rattle.ua_channel_laws.specs.ServerReads.{AtServer, ServerReads, at_server, server_with}
use Rattle.ua_channel.specs.ServerRefusals.{last_used}
use Rattle.ua_channel.specs.ServerRules.{server_rules}
use Rattle.ua_channel.specs.ServerTold.{Told, issued}
use Rattle.ua_channel_laws.proofs.Conversing.{content_kind}
use Rattle.ua_channel.proofs.OneFrameMore.{received-nil, received-push}
use Rattle.ua_channel_laws.proofs.ServerConversing.{IsPlaced, converses, nothing_placed, placed_next}

-- ---- the sizes of a Hello

small_read : (body : List ℕ) (h : Hello) → hello_in body ≡ Some h → h.send_buffer_size < 2 ^ 32
unfolding hello
small_read body h e =
    let i = encodes_whole hello sound_hello body h e in
    omega (arith, ap (λ (x : Hello). x.send_buffer_size) i.is, i.encoded.second_encoded.second_encoded.first_encoded.0)

second_false : (a b : Bool) → (a || b) ≡ false → b ≡ false
second_false true b e = absurd cc
second_false false b e = e

-- ---- with a frame more

-- what is so of all that a server took
record Known (b : Received) : Type 0 where
  large : (h : Hello) → b.hello ≡ Some h → 8192 ≤ h.send_buffer_size
  sized : (h : Hello) → b.hello ≡ Some h → h.send_buffer_size < 2 ^ 32
  few_issued : issued b < 2 ^ 32
  some_used : 0 < last_used b

module _ (channel : ℕ) (b : Received) (known : Known b) where
  said_is : (o : Option Hello) (g : IsGoodHello o) (h : Hello) → or_before b.hello o ≡ Some h → g.said ≡ h
  said_is o g h e =
      let same : Some g.said ≡ Some h = sym (ap (or_before b.hello) g.reads) ∙ e in
      cc

  greeted : (body : List ℕ) → IsGoodHello (hello_in body) → Known (after b (Greets (hello_in body)))
  greeted body g = record {
    large = λ h e.
        rw (← said_is (hello_in body) g h e)
        (ltb-false g.said.send_buffer_size 8192 (second_false (ltb g.said.receive_buffer_size 8192) (ltb g.said.send_buffer_size 8192) g.sizes));
    sized = λ h e. rw (← said_is (hello_in body) g h e) (small_read body g.said g.reads);
    few_issued = known.few_issued;
    some_used = known.some_used;
  }

  opened : (o : Opening) → IsGoodRequest channel (issued b) o → Known (after b (Opens o))
  opened o g =
      let left : issued b ≡ 4294967295 → ⊥ = eqb-false (issued b) 4294967295 g.left in
      let more : length (b.openings ++ o ∷ []) ≡ length b.openings + 1 = length-append b.openings (o ∷ []) in
      record { large = known.large; sized = known.sized; few_issued = grind (left, known.few_issued, more, arith); some_used = known.some_used }

  used_on : (token : ℕ) → (leb (last_used b) token && leb token (issued b)) ≡ true → 0 < token
  used_on token e = omega (arith, known.some_used, leb-true (last_used b) token (and_parts (leb (last_used b) token) (leb token (issued b)) e).0)

  sent : (found : Option Chunk) → MayCarry channel b (sends found) → Known (after b (sends found))
  sent None may = known
  sent (Some c) may = record { large = known.large; sized = known.sized; few_issued = known.few_issued; some_used = used_on c.token may.taken }

  closed : (found : Option Chunk) → MayCarry channel b (closes found) → Known (after b (closes found))
  closed None may = known
  closed (Some c) may = record { large = known.large; sized = known.sized; few_issued = known.few_issued; some_used = used_on c.token may.taken }

  known_more : (f : Frame) (k : Kind) → MayCarry channel b (content_by k f) → Known (after b (content_by k f))
  known_more f Hel may = greeted f.body may
  known_more f kind.Ack may = record { large = known.large; sized = known.sized; few_issued = known.few_issued; some_used = known.some_used }
  known_more f kind.Err may = known
  known_more f Opn may = opened (opening_of f.body) may
  known_more f Msg may = sent (chunk_in f) may
  known_more f Clo may = closed (chunk_in f) may

-- ---- behind all frames

nothing_known : Known (received [])
nothing_known =
    rw received-nil
    (record {
      large = λ h e. let never : None ≡ Some h = e in absurd cc;
      sized = λ h e. let never : None ≡ Some h = e in absurd cc;
      few_issued = omega arith;
      some_used = omega arith;
    })

module _ (limits : Limits) (channel : ℕ) where
  known_next : (start : List Frame) (f : Frame) → Known (received start) → MayCarry channel (received start) (content f) → Known (received (start ++ f ∷ []))
  known_next start f known may =
      rw (received-push start f ∙ ap (after (received start)) (content_kind f)) (known_more channel (received start) known f f.kind (rw (← content_kind f) may))

  all_from : (start fs : List Frame) → IsPlaced (received start) → Known (received start) → AllFrom (Fits (server_rules limits channel)) start fs
      → AllFrom (λ us f. MayCarry channel (received us) (content f)) start fs
      → IsPlaced (received (start ++ fs)) × Known (received (start ++ fs))
  all_from start [] placed known fits may = rw (append-nil start) (placed, known)
  all_from start (f ∷ fs) placed known fits may =
      rw (← append_assoc start (f ∷ []) fs) (all_from (start ++ f ∷ []) fs (placed_next limits channel start f placed fits.0.let_in.kind)
      (known_next start f known may.0) fits.1 may.1)

  all_known : (frames : List Frame) → AllAfter (Fits (server_rules limits channel)) frames → IsPlaced (received frames) × Known (received frames)
  unfolding AllAfter
  all_known frames fits = all_from [] frames (nothing_placed limits channel) nothing_known fits ((converses limits channel frames).0 fits).carries

-- ---- the law

-- the parts of a state
stated : (o : Option Hello) (issued used next : ℕ) (at : AtServer) → server_with o issued used next ≡ Some at
    → (o ≡ Some at.hello) × (issued ≡ at.issued) × (used ≡ at.used)
stated None issued used next at e = absurd cc
stated (Some h) issued used next at e =
    let same = some_is (record { hello = h; issued = issued; used = used; next = next }) at e in
    (ap (λ (x : AtServer). Some x.hello) same, ap (λ (x : AtServer). x.issued) same, ap (λ (x : AtServer). x.used) same)

-- a server stands behind its frames where they and the next number say
pub reads_at : {limits : Limits} {channel : ℕ} {octets : List ℕ} {told : List Told} {at : AtServer} (frames : List Frame)
    → Run (server_rules limits channel) octets frames [] Going → events (server_rules limits channel) frames ≡ told
    → at_server (received frames) at.next ≡ Some at → IsTrue (may_follow (received frames).last at.next) → at.next ≤ 4294966272
    → open_ids (received frames).messages ≡ [] → ServerReads limits channel octets told at
reads_at {limits = limits} {channel = channel} {at = at} frames run told_is is follows small none =
    let known = (all_known limits channel frames run.good).1 in
    let parts = stated (received frames).hello (issued (received frames)) (last_used (received frames)) at.next at is in
    record {
      frames = frames;
      run = run;
      told_is = told_is;
      hello_is = parts.0;
      large = omega (arith, limits.receives, known.large at.hello parts.0);
      sized = omega (arith, known.sized at.hello parts.0);
      issued_is = parts.1;
      few_issued = omega (arith, parts.1, known.few_issued);
      used_is = parts.2;
      some_used = omega (arith, parts.2, known.some_used);
      follows = follows;
      next_small = small;
      none_open = none;
    }
