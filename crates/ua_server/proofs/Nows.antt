-- What a step answers by what stands, by what the channel answered.
use Rattle.std.specs.Prelude.{◌≡◌, ◌⊎◌, ℕ, ◌<◌, ◌≤◌, length, Bool, true, false, List, [], ◌∷◌, ◌++◌, take, Option, None, Some, Result, Ok, Err}
use Rattle.std.specs.List.{concat}
use Rattle.std.proofs.Common.{Vec, Global, refl, sym, ◌∙◌, ap, inl, inr, append-nil}
use Rattle.ua_builtin.specs.declared.status_code.StatusCode.{StatusCode}
use Rattle.ua_builtin.specs.declared.date_time.DateTime.{DateTime}
use Rattle.ua_frame.specs.Run.{Rules}
use Rattle.ua_services.specs.Response.{response}
use Rattle.ua_channel_laws.proofs.ServerReadsOnce.{goes_behind}
use Rattle.ua_channel.specs.Received.{listed}
use Rattle.ua_channel.specs.ServerPlaces.{agreed_by}
use Rattle.ua_channel.specs.ServerStands.{limits_of, channel_of, next_of, IsDone, GoesTelling}
use Rattle.ua_channel.specs.ServerTold.{Told, Asked}
use Rattle.ua_channel.specs.declared.server.ServerChannel.{ServerChannel}
use Rattle.ua_channel.specs.declared.server_event.ServerEvent.TheVariants as event
use Rattle.ua_channel.specs.declared.server_fault.ChannelFault.TheVariants as fault
use Rattle.ua_server.specs.Now.{AdvanceNowBy, NowBy, NowTells, StepNow, standing}
use Rattle.ua_server.specs.Reply.{answered}
use Rattle.ua_server.specs.Requests.{request_answered, with_first}
use Rattle.ua_server.specs.Said.{lane_at, say}
use Rattle.ua_server.specs.State.{State}
use Rattle.ua_server.specs.Stepping.{AnswersBehind, IsReplyAt, StepBreaks, given_up}
use Rattle.ua_server.specs.declared.step.End.{End as Ending}
use Rattle.ua_server.specs.declared.step.End.TheVariants as ending
use Rattle.ua_server.specs.declared.step.Step.{Step}
use Rattle.ua_server.specs.declared.step.StepFault.{StepFault}
use Rattle.ua_server.specs.declared.step.StepFault.TheVariants as step_fault
use Rattle.ua_server.specs.declared.watch.AnsweredRequest.{AnsweredRequest}
use Rattle.ua_server.proofs.Events.{rules-same}
use Rattle.ua_server.proofs.Steps.{Says, says-sent, says-reply, agreed-quiet}

one-request : (r : Option AnsweredRequest) → with_first r [] ≡ listed r
one-request None = refl
one-request (Some r) = refl

agreed-here : (told : List Told) (quiet : List ℕ) (s : State) → agreed_by (told ++ given_up quiet) ≡ agreed_by told
agreed-here told quiet s = agreed-quiet 0 s told quiet []

module _ (old mid : ServerChannel) (moment : DateTime) (piece : List ℕ) (n : ℕ) (octets : List ℕ) (told : List Told) (before : State) where
  -- a step that says nothing, and one that says something
  pub now-silently : (s : Step) (end : Option Ending) → s.taken ≡ n → s.out.items ≡ [] → s.end ≡ end
      → ((out : List ℕ) → out ≡ [] → AdvanceNowBy false None old moment piece end n out mid octets told before before)
      → AdvanceNowBy false None old moment piece s.end s.taken s.out.items mid octets told before before
  now-silently s end taken out is by =
      rw (taken, is) (by s.out.items out)

  pub now-saying : (request : Option AnsweredRequest) (s t : Step) (new : ServerChannel) (now : State) → s ≡ t
      → AdvanceNowBy true request old moment piece t.end t.taken t.out.items new octets told before now
      → AdvanceNowBy true request old moment piece s.end s.taken s.out.items new octets told before now
  now-saying request s t new now is a =
      rw is a

  -- nothing came
  pub now-quiet : AnswersBehind old moment piece n (Ok event.NeedMore) mid octets told → (out : List ℕ) → out ≡ []
      → NowTells false None old moment piece n out mid octets told before before
  now-quiet b out none = record {
    answered_is = refl;
    requests_are = refl;
    goes = record {
      quiet = b.quiet;
      more = [];
      stops = (b.answers.0, none);
      goes = rw (append-nil (told ++ given_up b.quiet)) b.answers.1.0;
      out_is = none;
      state_is = refl;
      number_is = b.answers.1.1;
    };
  }

  -- one thing is answered
  now-one : (request : Option AnsweredRequest) (quiet : List ℕ) (t : Told) (new : ServerChannel) (out : List ℕ) (now : State) → (0 < n) × (n ≤ length piece)
      → GoesTelling new (octets ++ take n piece) (told ++ given_up quiet) t
      → Says request (channel_of old) (next_of old) (next_of new) moment before now (agreed_by told) t out
      → NowTells true request old moment piece n out new octets told before now
  now-one request quiet t new out now counts goes says =
      record {
        answered_is = refl;
        requests_are = sym (rw says.request_is (one-request request));
        goes = record {
          quiet = quiet;
          more = t ∷ [];
          stops = (counts.0, counts.1, says.answered, goes);
          goes = goes_behind new (octets ++ take n piece) (told ++ given_up quiet) t goes;
          out_is = sym (append-nil (say (channel_of old) (standing before (next_of old) (agreed_by told) (t ∷ []) moment) t).0 ∙ says.out_is);
          state_is = sym says.state_is;
          number_is = sym says.number_is;
        };
      }

  -- an ACK or an OPN response
  pub now-send : (sent : Vec ℕ Global) → AnswersBehind old moment piece n (Ok (event.Send sent)) mid octets told
      → NowTells true None old moment piece n sent.items mid octets told before before
  now-send sent b =
      let sends = b.answers.1 in
      now-one None b.quiet sends.said mid sent.items before b.answers.0 sends.goes
      (says-sent (channel_of old) (next_of old) (next_of mid) moment before (agreed_by told) sends.said sent.items sends.are_sent sends.counted)

  -- a message, and its reply
  pub now-reply : (request : AnsweredRequest) (new : ServerChannel) (id : ℕ) (message : List (List ℕ)) (out : List ℕ) (now : State)
      (b : AnswersBehind old moment piece n (Ok (event.Asked id message)) mid octets told)
      → GoesTelling new (octets ++ take n piece) (told ++ given_up b.quiet) (Asked id b.answers.1.0.token (concat message))
      × IsReplyAt (channel_of mid) b.answers.1.0.token (agreed_by (told ++ given_up b.quiet)) (response.canonical (answered before moment (concat message)).1)
      (next_of mid) id out (next_of new)
      → now ≡ (answered before moment (concat message)).0
      → request ≡ request_answered (lane_at (channel_of mid) b.answers.1.0.token (agreed_by (told ++ given_up b.quiet))) before moment (concat message)
      → NowTells true (Some request) old moment piece n out new octets told before now
  now-reply request new id message out now b sent state is =
      let token = b.answers.1.0.token in
      let body = response.canonical (answered before moment (concat message)).1 in
      let same = agreed-here told b.quiet before in
      now-one (Some request) b.quiet (Asked id token (concat message)) new out now b.answers.0 sent.0
      (says-reply request (channel_of old) (next_of old) (next_of new) moment before now (agreed_by told) id token (concat message) out state
      (rw (← b.channel, ← b.answers.1.1, ← same) sent.1)
      (is ∙ (rw (b.channel, same))))

  -- a message, and no memory for its reply
  pub now-break : (new : ServerChannel) (id : ℕ) (message : List (List ℕ)) (now : State)
      → AnswersBehind old moment piece n (Ok (event.Asked id message)) mid octets told → IsDone new
      → (now ≡ before) ⊎ (now ≡ (answered before moment (concat message)).0)
      → StepBreaks (limits_of old) (channel_of old) moment piece new octets told before now
  now-break new id message now b done (inl e) = (done, inl e)
  now-break new id message now b done (inr e) =
      let g = b.answers.1.0.goes in
      let same = rules-same old mid b.limits b.channel in (
        done,
        inr (record {
          message = concat message;
          ends = record {
            n = n;
            within = b.answers.0.1;
            quiet = b.quiet;
            id = id;
            token = b.answers.1.0.token;
            frames = g.frames;
            frame = g.frame;
            run = rw (← same) g.stands.run;
            told_is = rw (sym same) g.told_is;
            tells = ap (λ (R : Rules Told ℕ). R.tells g.frames g.frame) (sym same) ∙ g.tells;
          };
          now_is = e;
        }),
      )

  -- a CLO
  pub now-close : AnswersBehind old moment piece n (Ok event.Closed) mid octets told → (out : List ℕ) → out ≡ []
      → NowBy old moment piece (Some ending.Closed) n out mid octets told before before
  now-close b out none = (record { quiet = b.quiet; some = b.answers.0; closed = b.answers.1 }, none, refl)

  -- a refusal
  pub now-refusal : (code : StatusCode) (frame out : List ℕ) → AnswersBehind old moment piece n (Err (fault.Refused code frame)) mid octets told → out ≡ frame
      → NowBy old moment piece (Some (ending.Refused code)) n out mid octets told before before
  now-refusal code frame out b same = (record { quiet = b.quiet; within = b.answers.0; refused = b.answers.1 }, same ∙ b.answers.2, refl)

same-fault : {A : Type 0} (f g : StepFault) → ◌≡◌ {A = Result A StepFault} (Err f) (Err g) → f ≡ g
same-fault f g e = cc

-- a fault for want of memory
pub now-breaks : {A : Type 0} (old new : ServerChannel) (moment : DateTime) (piece : List ℕ) (f : StepFault) (octets : List ℕ) (told : List Told)
    (before now : State)
    → ◌≡◌ {A = Result A StepFault} (Err f) (Err step_fault.OutOfMemory)
    → StepBreaks (limits_of old) (channel_of old) moment piece new octets told before now → StepNow old moment piece (Err f) new octets told before now
now-breaks {A = A} old new moment piece f octets told before now e b = rw (same-fault {A = A} f step_fault.OutOfMemory e) b

module _ (old new : ServerChannel) (moment : DateTime) (piece : List ℕ) (n : ℕ) (out octets : List ℕ) (told : List Told) (before now : State) where
  -- a refusal ends the connection
  pub now-ended : (end : Option Ending) → (end ≡ None → ⊥) → NowBy old moment piece end n out new octets told before now
      → AdvanceNowBy false None old moment piece end n out new octets told before now
  now-ended None some s = absurd (some refl)
  now-ended (Some end) some s = (s, refl)

  -- without whether something was answered
  pub now-without : (answered : Bool) (request : Option AnsweredRequest) (end : Option Ending)
      → AdvanceNowBy answered request old moment piece end n out new octets told before now → NowBy old moment piece end n out new octets told before now
  now-without answered request None a = a.goes
  now-without answered request (Some end) a = a.0
