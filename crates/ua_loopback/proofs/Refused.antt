-- That no client opens whose URL the server refuses: one of 4096 octets or more.
use Rattle.std.proofs.Common.{◌≡◌, ◌⊎◌, inl, inr, ℕ, ◌+◌, ◌<◌, ◌≤◌, false, IsTrue, List, [], ◌∷◌, ◌++◌, Option, Some}
use Rattle.std.proofs.Common.{length, refl, sym, ◌∙◌, ap, subst, arith, append-nil, append_assoc, length-append}
use Rattle.std.proofs.lemmas.Bool.{cases_lt, lt-ltb}
use Rattle.ua_wire.specs.Counted.{counted, text}
use Rattle.ua_wire.specs.Format.{Extends}
use Rattle.ua_wire.specs.Number.{number_octets}
use Rattle.ua_wire.proofs.NumbersRead.{length-number_octets}
use Rattle.ua_builtin.specs.Reasons.{first_reason}
use Rattle.ua_builtin.specs.Status.{of_code, status_code}
use Rattle.ua_builtin.specs.declared.date_time.DateTime.{DateTime}
use Rattle.ua_frame.specs.After.{AllAfter}
use Rattle.ua_frame.specs.Agreement.{url_length}
use Rattle.ua_frame.specs.Frames.{IsSized, LetsIn, frame_octets, frame_size, frames_octets, header_fault}
use Rattle.ua_frame.specs.Hello.{hello_gate}
use Rattle.ua_frame.specs.Messages.{err_frame, error, hello}
use Rattle.ua_frame.specs.Run.{Going, Run, Stopped, events}
use Rattle.ua_frame.specs.declared.fault.FrameFault.TheVariants.{TooLarge}
use Rattle.ua_frame.specs.declared.frame.Frame.{Frame}
use Rattle.ua_frame.specs.declared.gate.Gate.{Gate}
use Rattle.ua_frame.specs.declared.kind.Kind.TheVariants.{Hel}
use Rattle.ua_frame.specs.declared.limits.Limits.{Limits}
use Rattle.ua_frame.proofs.Fronts.{fault_by, fault_front, fault_of-frame, length-frame_octets}
use Rattle.ua_frame.proofs.MessagesLawful.{sound_hello}
use Rattle.ua_frame.proofs.Streams.{frames_octets-push}
use Rattle.ua_frame.proofs.Unique.{front_frame, front_none, one_frame}
use Rattle.ua_frame.proofs.Wholes.{whole_encodes}
use Rattle.ua_channel.specs.Client.{client_rules_of}
use Rattle.ua_channel.specs.ClientSends.{hello_frame, hello_to}
use Rattle.ua_channel.specs.ClientTold.{ClientTold as heard}
use Rattle.ua_channel.specs.Content.{Content, content}
use Rattle.ua_channel.specs.Content.Content.{Greets}
use Rattle.ua_channel.specs.Received.{Received, received}
use Rattle.ua_channel.specs.ServerRefusals.{server_reasons}
use Rattle.ua_channel.specs.ServerRules.{server_gate, server_rules}
use Rattle.ua_channel.specs.ServerTold.{Told}
use Rattle.ua_channel.specs.declared.client.channel.ClientChannel.{ClientChannel}
use Rattle.ua_channel.proofs.Carried.{content_hel}
use Rattle.ua_channel.proofs.ClientFrames.{hello_length, url_short}
use Rattle.ua_channel.proofs.OneFrameMore.{received-nil}
use Rattle.ua_channel_laws.proofs.ReadOn.{no_events}
use Rattle.ua_server.specs.Said.{output_of}
use Rattle.ua_client.specs.Opening.{IsOpened, open_frame_octets}
use Rattle.ua_loopback.specs.Beginning.{Beginning}
use Rattle.ua_loopback.specs.Course.{opening_octets}
use Rattle.ua_loopback.specs.Says.{server_output, answer_times}
use Rattle.ua_loopback.proofs.Saying.{said_by_run}

-- ---- what a server says of a stream that it refuses from the first frame on

said_none : (b : Beginning) (code : ℕ) → output_of b.channel b.first [] (Stopped code) (answer_times [] b.moments) ≡ frame_octets (err_frame (of_code code))
unfolding output_of
said_none b code = refl

said_refused : (b : Beginning) (octets : List ℕ) (code : ℕ) → Run (server_rules b.limits b.channel) octets [] octets (Stopped code)
    → server_output b octets ≡ frame_octets (err_frame (of_code code))
said_refused b octets code run =
    said_by_run b octets [] octets (Stopped code) run
    ∙ (ap (λ (t : List Told). output_of b.channel b.first t (Stopped code) (answer_times t b.moments)) (no_events (server_rules b.limits b.channel))
    ∙ said_none b code)

err_sized : (code : ℕ) → IsSized (err_frame (of_code code))
unfolding error status_code text counted
err_sized code = omega (
  arith,
  length-append (number_octets 4 code) (number_octets 4 0xFFFF_FFFF),
  length-number_octets 4 code,
  length-number_octets 4 0xFFFF_FFFF,
)

-- ---- a HEL with such a URL

module _ (limits : Limits) (channel : ℕ) (client : Limits) (url : Option (List ℕ)) (moment : DateTime) (fits : IsTrue (hello.encodable (hello_to client url)))
    (writable : IsTrue (text.encodable url)) (long : 4095 < url_length url) where
  abbrev hel : Frame
  hel = hello_frame (hello_to client url)

  abbrev octets : List ℕ
  octets = frame_octets hel ++ open_frame_octets moment

  hel_size : frame_size hel ≡ 32 + url_length url
  hel_size = omega (arith, hello_length client url)

  hel_sized : IsSized hel
  hel_sized = omega (arith, hel_size, url_short url writable)

  gate_is : (server_rules limits channel).gate [] ≡ hello_gate
  gate_is = ap (server_gate limits) received-nil

  goes_on : (server_rules limits channel).over [] ≡ false
  goes_on = ap (λ (b : Received). b.closed) received-nil

  hel_carried : content hel ≡ Greets (Some (hello_to client url))
  hel_carried = content_hel hel refl
      ∙ ap Greets (whole_encodes hello sound_hello (hello.canonical (hello_to client url)) (hello_to client url)
      (sound_hello.canonical_encodes (hello_to client url) fits))

  -- refused for its URL
  refused_long : frame_size hel ≤ 8192 → Run (server_rules limits channel) octets [] octets (Stopped 0x8083_0000)
  unfolding AllAfter
  refused_long few = record {
    whole = sym (front_none octets);
    good = tt;
    ends = (
      goes_on,
      inr (record {
        frame = hel;
        more = open_frame_octets moment;
        parts = refl;
        sized = hel_sized;
        let_in = subst (λ (g : Gate). LetsIn g hel) (sym gate_is) (record { kind = refl; flag = refl; largest = few; least = omega (arith, hel_size) });
        refused =
            ap (λ (k : Content). first_reason (server_reasons limits channel (received []) k)) hel_carried
            ∙ rw (lt-ltb 4095 (url_length url) long) refl;
      }),
    );
  }

  too_large : (size : ℕ) → size ≡ frame_size hel → 8192 < size → fault_by hello_gate (Some Hel) 70 size ≡ Some TooLarge
  too_large size is big = rw (lt-ltb 8192 size big) refl

  fault_is : 8192 < frame_size hel → header_fault ((server_rules limits channel).gate []) octets ≡ Some TooLarge
  fault_is big =
      ap (λ (g : Gate). header_fault g octets) gate_is
      ∙ (fault_front hello_gate (frame_octets hel) (open_frame_octets moment) (omega (arith, length-frame_octets hel))
      ∙ (fault_of-frame hello_gate hel hel_sized ∙ too_large (frame_size hel) refl big))

  -- refused for its size
  refused_large : 8192 < frame_size hel → Run (server_rules limits channel) octets [] octets (Stopped 0x8080_0000)
  unfolding AllAfter
  refused_large big = record {
    whole = sym (front_none octets);
    good = tt;
    ends = (
      goes_on,
      inl (record {
        fault = TooLarge;
        code = 0x8080_0000;
        whole = omega (arith, length-append (frame_octets hel) (open_frame_octets moment), length-frame_octets hel);
        fault_is = fault_is big;
        code_is = refl;
        why_is =
            refl;
      }),
    );
  }

-- a server says nothing of it but the ERR
long_said : (b : Beginning) (client : Limits) (url : Option (List ℕ)) (moment : DateTime) → IsTrue (hello.encodable (hello_to client url))
    → IsTrue (text.encodable url) → 4095 < url_length url
    → (code : ℕ) × (server_output b (opening_octets client url moment) ≡ frame_octets (err_frame (of_code code)))
long_said b client url moment fits writable long = by (cases_lt 8192 (frame_size (hello_frame (hello_to client url))))
  where
    by : ((8192 < frame_size (hello_frame (hello_to client url))) ⊎ (frame_size (hello_frame (hello_to client url)) ≤ 8192))
        → (code : ℕ) × (server_output b (opening_octets client url moment) ≡ frame_octets (err_frame (of_code code)))
    by (inl big) =
        (0x8080_0000, said_refused b (opening_octets client url moment) 0x8080_0000 (refused_large b.limits b.channel client url moment fits writable long big))
    by (inr few) =
        (0x8083_0000, said_refused b (opening_octets client url moment) 0x8083_0000 (refused_long b.limits b.channel client url moment fits writable long few))

-- ---- a client does not open by it

none_then : {A : Type 0} (x : A) → [] ≡ x ∷ [] → ⊥
none_then x e = absurd cc

never_by : (x : ClientChannel) (octets : List ℕ) (o : IsOpened x octets) (e : Frame) (more : List ℕ) → IsSized e → octets ++ more ≡ frame_octets e
    → (fs : List Frame) → o.tells.frames ≡ fs → ⊥
unfolding AllAfter
never_by x octets o e more sized is [] none = none_then (heard.Agreed o.ack) (sym (no_events (client_rules_of x []))
    ∙ (sym (ap (events (client_rules_of x [])) none) ∙ o.tells.told_is))
never_by x octets o e more sized is (f ∷ fs) some =
    let all : o.tells.frames ++ o.tells.frame ∷ [] ≡ f ∷ (fs ++ o.tells.frame ∷ []) = ap (λ (gs : List Frame). gs ++ o.tells.frame ∷ []) some in
    let run : Run (client_rules_of x []) octets (f ∷ (fs ++ o.tells.frame ∷ [])) [] Going =
    subst (λ (gs : List Frame). Run (client_rules_of x []) octets gs [] Going) all o.tells.stands.run in
    let rest : List ℕ = frames_octets (fs ++ o.tells.frame ∷ []) in
    let whole : frame_octets f ++ ((rest ++ []) ++ more) ≡ frame_octets e ++ [] =
    sym (append_assoc (frame_octets f) (rest ++ []) more) ∙ (ap (λ (t : List ℕ). t ++ more) (sym (front_frame f (fs ++ o.tells.frame ∷ []) []) ∙ sym run.whole)
    ∙ (is ∙ sym (append-nil (frame_octets e)))) in
    let one = one_frame f e ((rest ++ []) ++ more) [] run.good.0.sized sized whole in
    omega (
      arith,
      ap length one.1,
      length-append (rest ++ []) more,
      length-append rest [],
      ap length (frames_octets-push fs o.tells.frame),
      length-append (frames_octets fs) (frame_octets o.tells.frame),
      length-frame_octets o.tells.frame,
    )

never_opened : (x : ClientChannel) (octets : List ℕ) → IsOpened x octets → (e : Frame) → IsSized e → Extends octets (frame_octets e) → ⊥
never_opened x octets o e sized front = never_by x octets o e front.more sized (sym front.parts) o.tells.frames refl

-- where a client opened, its URL is one that the server takes
pub short_url : (b : Beginning) (client : Limits) (url : Option (List ℕ)) (moment : DateTime) (x : ClientChannel) (octets : List ℕ)
    → IsTrue (hello.encodable (hello_to client url)) → IsTrue (text.encodable url) → IsOpened x octets
    → Extends octets (server_output b (opening_octets client url moment)) → url_length url ≤ 4095
short_url b client url moment x octets fits writable o front = by (cases_lt 4095 (url_length url))
  where
    by : ((4095 < url_length url) ⊎ (url_length url ≤ 4095)) → url_length url ≤ 4095
    by (inl long) =
        let output_of = long_said b client url moment fits writable long in
        absurd (never_opened x octets o (err_frame (of_code output_of.0)) (err_sized output_of.0) (subst (Extends octets) output_of.1 front))
    by (inr short) = short
