-- What a line keeps behind a step of its server.
use Rattle.std.proofs.Common.{◌≡◌, ℕ, zero, suc, ◌+◌, ◌<◌, ◌≤◌, List, [], ◌∷◌, ◌++◌, Option, Some, None, Ok}
use Rattle.std.proofs.Common.{length, take, replicate, refl, sym, ◌∙◌, ap, subst, arith, add-zero, append-nil, length-append}
use Rattle.ua_builtin.specs.declared.date_time.DateTime.{DateTime}
use Rattle.ua_builtin.specs.declared.status_code.StatusCode.{StatusCode}
use Rattle.ua_frame.specs.declared.frame.Frame.{Frame}
use Rattle.ua_frame.specs.declared.limits.Limits.{Limits}
use Rattle.ua_frame.specs.Run.{Rules, End, Going, Stopped, Over, Run, events}
use Rattle.ua_frame.proofs.Streams.{run_nil}
use Rattle.ua_frame.proofs.Unique.{unique}
use Rattle.ua_channel_laws.proofs.AgreedFirst.{agrees_first}
use Rattle.ua_channel_laws.proofs.ReadOn.{no_events}
use Rattle.ua_channel.specs.Received.{closings, received}
use Rattle.ua_channel.specs.ServerPlaces.{agreed_by}
use Rattle.ua_channel.specs.ServerRules.{server_rules}
use Rattle.ua_channel.specs.ServerStands.{channel_of, limits_of, next_of, rules_of, Goes}
use Rattle.ua_channel.specs.ServerTold.{Told, Agreed, Opened, Asked, GaveUp, Closed}
use Rattle.ua_channel.specs.declared.server.ServerChannel.{ServerChannel}
use Rattle.ua_server.specs.Now.{NowBy, NowGoes, StepNow, standing}
use Rattle.ua_server.specs.Said.{state_after, output_of, said_of, say, used_in}
use Rattle.ua_server.specs.Served.{channel_in}
use Rattle.ua_server.specs.State.{State}
use Rattle.ua_server.specs.Stepping.{ServerStands, StepBy, StepCloses, StepGoes, StepRefuses, StepStops, StepTakes, given_up, times_of_answers}
use Rattle.ua_server.specs.declared.server.Server.{Server}
use Rattle.ua_server.specs.declared.step.End.{End as Ending}
use Rattle.ua_server.specs.declared.step.End.TheVariants as ending
use Rattle.ua_server.specs.declared.step.Step.{Step}
use Rattle.ua_server.proofs.NowStanding.{as-told}
use Rattle.ua_server.proofs.SaidInParts.{used_in-append}
use Rattle.ua_loopback.specs.Beginning.{Beginning}
use Rattle.ua_loopback.specs.Kept.{Keeps, HasTakenAll}
use Rattle.ua_loopback.specs.Says.{end_by, services_after, server_output, answer_times, times_from}
use Rattle.ua_loopback.specs.declared.stage.Stage.{Stage}
use Rattle.ua_loopback.specs.declared.stage.Stage.TheVariants as stage
use Rattle.ua_loopback.specs.Times.{times_in}
use Rattle.ua_loopback.proofs.Clocks.{quiet_agreed, say_carries}
use Rattle.ua_loopback.proofs.Saying.{end_is, later_times, left_by_run, rules_by, said_by_run, spent-append}

-- ---- moments

none-used : (ids : List ℕ) → used_in (given_up ids) ≡ 0
none-used [] = refl
none-used (id ∷ ids) = let rest = none-used ids in omega (arith, rest)

quiet-used : (told : List Told) (ids : List ℕ) → used_in (told ++ given_up ids) ≡ used_in told
quiet-used told ids = omega (arith, used_in-append told (given_up ids), none-used ids)

quiet-spent : (told : List Told) (ids : List ℕ) (moments : ℕ → DateTime) → answer_times (told ++ given_up ids) moments ≡ answer_times told moments
quiet-spent told ids moments = ap (λ (n : ℕ). times_from moments 0 n) (quiet-used told ids)

-- at most one time more, where this is due
one-time : (moments : ℕ → DateTime) (moment : DateTime) (n k : ℕ) → k ≤ 1 → moments n ≡ moment → replicate k moment ≡ times_from moments n k
one-time moments moment n zero most due = refl
one-time moments moment n (suc zero) most due = ap (λ (m : DateTime). m ∷ []) (sym due)
one-time moments moment n (suc (suc k)) most due = absurd (omega (arith, most))

-- the moments of what was told, and of what is told more
spent-more : (told : List Told) (quiet : List ℕ) (more : List Told) (moments : ℕ → DateTime) (moment : DateTime) → used_in more ≤ 1
    → moments (used_in (told ++ given_up quiet)) ≡ moment
    → answer_times told moments ++ times_of_answers more moment ≡ answer_times ((told ++ given_up quiet) ++ more) moments
spent-more told quiet more moments moment most due =
    ap (λ (ms : List DateTime). answer_times told moments ++ ms) (one-time moments moment (used_in (told ++ given_up quiet)) (used_in more) most due)
    ∙ (ap (λ (ms : List DateTime). ms ++ later_times (told ++ given_up quiet) more moments) (sym (quiet-spent told quiet moments))
    ∙ sym (spent-append (told ++ given_up quiet) more moments))

one-used : (t : Told) → used_in (t ∷ []) ≤ 1
one-used (Agreed a) = omega arith
one-used (Opened id handle token lifetime) = omega arith
one-used (Asked id token octets) = omega arith
one-used (GaveUp id) = omega arith
one-used Closed = omega arith

-- what is told until an answer uses one at most
stops-used : (x : ServerChannel) (o piece : List ℕ) (n : ℕ) (out : List ℕ) (before more : List Told) → StepStops x o piece n out before more → used_in more ≤ 1
stops-used x o piece n out before [] s = omega arith
stops-used x o piece n out before (t ∷ []) s = one-used t
stops-used x o piece n out before (t ∷ (u ∷ more)) s = absurd s

-- ---- where a channel stands

module _ (b : Beginning) (x : ServerChannel) (limits_are : limits_of x ≡ b.limits) (channel_is : channel_of x ≡ b.channel) (octets : List ℕ) (fs : List Frame)
    (rest : List ℕ) (end : End ℕ) (told : List Told)
    (r : Run (rules_of x) octets fs rest end) (is : events (rules_of x) fs ≡ told) where
  rules_are : rules_of x ≡ rules_by b
  rules_are = ap (λ (l : Limits). server_rules l (channel_of x)) limits_are ∙ ap (λ (c : ℕ). server_rules b.limits c) channel_is

  run_at : Run (rules_by b) octets fs rest end
  run_at = subst (λ (R : Rules Told ℕ). Run R octets fs rest end) rules_are r

  told_at : events (rules_by b) fs ≡ told
  told_at = subst (λ (R : Rules Told ℕ). events R fs ≡ told) rules_are is

  said_at : server_output b octets ≡ output_of b.channel b.first told end (answer_times told b.moments)
  said_at = said_by_run b octets fs rest end run_at ∙ ap (λ (t : List Told). output_of b.channel b.first t end (answer_times t b.moments)) told_at

  left_at : services_after b octets ≡ (state_after b.channel b.first told (answer_times told b.moments)).state
  left_at = left_by_run b octets fs rest end run_at ∙ ap (λ (t : List Told). (state_after b.channel b.first t (answer_times t b.moments)).state) told_at

  end_at : end_by b octets ≡ end
  end_at = end_is b octets fs rest end run_at

-- a channel was told one thing by bytes after which it goes on
same_told : (x : ServerChannel) (o : List ℕ) (a c : List Told) → Goes x o a → Goes x o c → a ≡ c
same_told x o a c g h =
    sym g.told_is
    ∙ (ap (λ (fs : List Frame). events (rules_of x) fs) (unique (rules_of x) o g.frames h.frames g.rest h.rest Going Going g.stands.run h.stands.run).frames
    ∙ h.told_is)

-- ---- a step

module _ (b : Beginning) (old new : Server) (before now : State) (moment : DateTime) (times : ℕ → DateTime) (up down piece : List ℕ) (read n : ℕ)
    (out : List ℕ) (k : Keeps b old before times up down read stage.Going) (is_due : moment ≡ times 0)
    (same_limits : limits_of (channel_in new) ≡ limits_of (channel_in old)) (same_channel : channel_of (channel_in new) ≡ channel_of (channel_in old)) where
  limits_are : limits_of (channel_in new) ≡ b.limits
  limits_are = same_limits ∙ k.serves.limits_are

  channel_is : channel_of (channel_in new) ≡ b.channel
  channel_is = same_channel ∙ k.serves.channel_is

  abbrev told : List Told
  told = k.serves.told

  said_before : server_output b up ≡ output_of b.channel b.first told Going (answer_times told b.moments)
  said_before =
      said_at b (channel_in old) k.serves.limits_are k.serves.channel_is up k.serves.stands.goes.frames k.serves.stands.goes.rest Going told
      k.serves.stands.goes.stands.run k.serves.stands.goes.told_is

  -- what is kept where all that was told then is this, and this was said of it
  more_said : (all : List Told) (fs : List Frame) (rest : List ℕ) (end : End ℕ) (ms : List DateTime)
      → Run (rules_of (channel_in new)) (up ++ take n piece) fs rest end → events (rules_of (channel_in new)) fs ≡ all
      → ms ≡ answer_times all b.moments → output_of (channel_of (channel_in old)) b.first all end ms ≡ output_of (channel_of (channel_in old)) b.first told
      Going (answer_times told b.moments) ++ out
      → down ++ out ≡ server_output b (up ++ take n piece)
  more_said all fs rest end ms r is moments out_is =
      let parts : output_of b.channel b.first all end ms ≡ output_of b.channel b.first told Going (answer_times told b.moments) ++ out =
      subst (λ (c : ℕ). output_of c b.first all end ms ≡ output_of c b.first told Going (answer_times told b.moments) ++ out) k.serves.channel_is out_is in
      ap (λ (o : List ℕ). o ++ out) (k.down_is ∙ said_before)
      ∙ (sym parts
      ∙ (ap (λ (m : List DateTime). output_of b.channel b.first all end m) moments
      ∙ sym (said_at b (channel_in new) limits_are channel_is (up ++ take n piece) fs rest end all r is)))

  more_left : (all : List Told) (fs : List Frame) (rest : List ℕ) (end : End ℕ) (c : ℕ) (ms : List DateTime)
      → Run (rules_of (channel_in new)) (up ++ take n piece) fs rest end → events (rules_of (channel_in new)) fs ≡ all
      → ms ≡ answer_times all b.moments → c ≡ b.channel → (state_after c b.first all ms).state ≡ now → now ≡ services_after b (up ++ take n piece)
  more_left all fs rest end c ms r is moments on state_is =
      sym state_is
      ∙ (ap (λ (m : List DateTime). (state_after c b.first all m).state) moments
      ∙ (ap (λ (i : ℕ). (state_after i b.first all (answer_times all b.moments)).state) on
      ∙ sym (left_at b (channel_in new) limits_are channel_is (up ++ take n piece) fs rest end all r is)))

  more_within : read ≤ length (down ++ out)
  more_within = omega (arith, k.within, length-append down out)

  -- ---- the timestamps

  due : (quiet : List ℕ) → b.moments (used_in (told ++ given_up quiet)) ≡ moment
  due quiet = ap b.moments (quiet-used told quiet ∙ sym (add-zero (used_in told))) ∙ (k.serves.times_are 0 ∙ sym is_due)

  spends : (quiet more : List Told) (ids : List ℕ) → quiet ≡ told ++ given_up ids → StepStops (channel_in new) up piece n out quiet more
      → out ≡ said_of (channel_of (channel_in old)) (standing before (next_of (channel_in old)) (agreed_by told) more moment) more
      → used_in (quiet ++ more) ≡ used_in told + times_in out
  spends quiet [] ids is stops said =
      omega (arith, used_in-append quiet [], ap used_in is, quiet-used told ids, ap times_in stops.1)
  spends quiet (t ∷ []) ids is stops said =
      let x = channel_of (channel_in old) in
      let c = standing before (next_of (channel_in old)) (agreed_by told) (t ∷ []) moment in
      let first = λ (none : agreed_by told ≡ None).
      agrees_first (channel_in new) (up ++ take n piece) quiet t stops.3 (ap agreed_by is ∙ (quiet_agreed told ids ∙ none)) in
      let carries : times_in out ≡ used_in (t ∷ []) = ap times_in (said ∙ append-nil (say x c t).0) ∙ say_carries x c t stops.2 first in
      omega (arith, used_in-append quiet (t ∷ []), ap used_in is, quiet-used told ids, carries)
  spends quiet (t ∷ (u ∷ more)) ids is stops said = absurd stops

  -- the times of the answers after it
  times_then : (all : List Told) → Goes (channel_in new) (up ++ take n piece) all
      → NowGoes (channel_in old) moment piece n out (channel_in new) up told before now → (later : ℕ → DateTime)
      → ((m : ℕ) → later m ≡ times (times_in out + m)) → (m : ℕ) → b.moments (used_in all + m) ≡ later m
  times_then all goes h later are m =
      let same : used_in all ≡ used_in told + times_in out =
      ap used_in (same_told (channel_in new) (up ++ take n piece) all ((told ++ given_up h.quiet) ++ h.more) goes h.goes)
      ∙ spends (told ++ given_up h.quiet) h.more h.quiet refl h.stops h.out_is in
      ap b.moments (on (used_in all) (used_in told) (times_in out) m same) ∙ (k.serves.times_are (times_in out + m) ∙ sym (are m))
    where
      on : (a c d m : ℕ) → a ≡ c + d → a + m ≡ c + (d + m)
      on a c d m e = omega (arith, e)

  -- it goes on
  goes_keeps : StepGoes (channel_of (channel_in old)) moment piece n out (channel_in new) up told b.first (answer_times told b.moments) now
      → NowGoes (channel_in old) moment piece n out (channel_in new) up told before now → (later : ℕ → DateTime)
      → ((m : ℕ) → later m ≡ times (times_in out + m)) → Keeps b new now later (up ++ take n piece) (down ++ out) read stage.Going
  goes_keeps g h later are =
      let all : List Told = (told ++ given_up g.quiet) ++ g.more in
      let moments : answer_times told b.moments ++ times_of_answers g.more moment ≡ answer_times all b.moments =
      spent-more told g.quiet g.more b.moments moment (stops-used (channel_in new) up piece n out (told ++ given_up g.quiet) g.more g.stops) (due g.quiet) in
      let stands : ServerStands (channel_in new) (up ++ take n piece) all b.first (answer_times all b.moments) now =
      subst (λ (ms : List DateTime). ServerStands (channel_in new) (up ++ take n piece) all b.first ms now) moments g.stands in
      record {
        down_is = more_said all stands.goes.frames stands.goes.rest Going (answer_times told b.moments ++ times_of_answers g.more moment)
            stands.goes.stands.run stands.goes.told_is moments g.out_is;
        within = more_within;
        serves = record {
          told = all;
          stands = stands;
          limits_are = limits_are;
          channel_is = channel_is;
          times_are = times_then all stands.goes h later are;
        };
        leaves = more_left all stands.goes.frames stands.goes.rest Going (channel_of (channel_in new)) (answer_times all b.moments) stands.goes.stands.run
            stands.goes.told_is refl channel_is stands.state_is;
        ends = end_at b (channel_in new) limits_are channel_is (up ++ take n piece) stands.goes.frames stands.goes.rest Going all stands.goes.stands.run
            stands.goes.told_is;
      }

  -- it closed
  closes_keeps : StepCloses (channel_of (channel_in old)) piece n out (channel_in new) up told b.first (answer_times told b.moments) before now
      → Keeps b new now times (up ++ take n piece) (down ++ out) read (stage.Ended ending.Closed)
  closes_keeps c =
      let all : List Told = (told ++ given_up c.quiet) ++ Closed ∷ [] in
      let moments : answer_times told b.moments ≡ answer_times all b.moments = sym (append-nil (answer_times told b.moments))
      ∙ spent-more told c.quiet (Closed ∷ []) b.moments moment (omega arith) (due c.quiet) in
      record {
        down_is = more_said all c.closed.frames [] Over (answer_times told b.moments) c.closed.run c.closed.told_is moments c.out_is;
        within = more_within;
        serves = tt;
        leaves = more_left all c.closed.frames [] Over (channel_of (channel_in old)) (answer_times told b.moments) c.closed.run c.closed.told_is moments
            k.serves.channel_is c.left_is;
        ends = end_at b (channel_in new) limits_are channel_is (up ++ take n piece) c.closed.frames [] Over all c.closed.run c.closed.told_is;
      }

  -- it refused what stands there
  refuses_keeps : (code : StatusCode) → StepRefuses (channel_of (channel_in old)) code.code piece n out (channel_in new) up told b.first
      (answer_times told b.moments) before now
      → Keeps b new now times (up ++ take n piece) (down ++ out) read (stage.Ended (ending.Refused code))
  refuses_keeps code c =
      let all : List Told = told ++ given_up c.quiet in
      let moments : answer_times told b.moments ≡ answer_times all b.moments = sym (quiet-spent told c.quiet b.moments) in
      record {
        down_is = more_said all c.refused.frames c.refused.rest (Stopped code.code) (answer_times told b.moments) c.refused.run c.refused.told_is moments
            c.out_is;
        within = more_within;
        serves = tt;
        leaves = more_left all c.refused.frames c.refused.rest (Stopped code.code) (channel_of (channel_in old)) (answer_times told b.moments) c.refused.run
            c.refused.told_is moments k.serves.channel_is c.left_is;
        ends = end_at b (channel_in new) limits_are channel_is (up ++ take n piece) c.refused.frames c.refused.rest (Stopped code.code) all c.refused.run
            c.refused.told_is;
      }

  -- it ended
  ends_keeps : (end : Ending) → StepBy (channel_of (channel_in old)) moment piece (Some end) n out (channel_in new) up told b.first
      (answer_times told b.moments) before now → Keeps b new now times (up ++ take n piece) (down ++ out) read (stage.Ended end)
  ends_keeps ending.Closed s = closes_keeps s
  ends_keeps (ending.Refused code) s = refuses_keeps code s
  ends_keeps ending.NoClose s = absurd s
  ends_keeps ending.Cut s = absurd s

  -- nothing is refused where nothing more was taken
  not_refused : (code : ℕ) (fs : List Frame) (rest : List ℕ) → n ≡ 0 → Run (rules_of (channel_in new)) (up ++ take n piece) fs rest (Stopped code) → ⊥
  not_refused code fs rest none r =
      let here : up ++ take n piece ≡ up = ap (λ (m : ℕ). up ++ take m piece) none ∙ append-nil up in
      let run : Run (rules_by b) up fs rest (Stopped code) =
      subst (λ (o : List ℕ). Run (rules_by b) o fs rest (Stopped code)) here
      (run_at b (channel_in new) limits_are channel_is (up ++ take n piece) fs rest (Stopped code) (events (rules_of (channel_in new)) fs) r refl) in
      let same = unique (rules_by b) up k.serves.stands.goes.frames fs k.serves.stands.goes.rest rest Going (Stopped code)
      (run_at b (channel_in old) k.serves.limits_are k.serves.channel_is up k.serves.stands.goes.frames k.serves.stands.goes.rest Going told
      k.serves.stands.goes.stands.run k.serves.stands.goes.told_is) run in
      let ends : ◌≡◌ {A = End ℕ} Going (Stopped code) = same.ends in
      absurd cc

  ends_some : (end : Ending) → StepBy (channel_of (channel_in old)) moment piece (Some end) n out (channel_in new) up told b.first
      (answer_times told b.moments) before now → n ≡ 0 → ⊥
  ends_some ending.Closed s none = omega (arith, s.some.0, none)
  ends_some (ending.Refused code) s none = not_refused code.code s.refused.frames s.refused.rest none s.refused.run
  ends_some ending.NoClose s none = s
  ends_some ending.Cut s none = s

-- ---- what a step answers

module _ (b : Beginning) (old new : Server) (before now : State) (moment : DateTime) (times : ℕ → DateTime) (up down piece : List ℕ) (read : ℕ) (step : Step)
    (k : Keeps b old before times up down read stage.Going) (is_due : moment ≡ times 0)
    (answers : (o : List ℕ) (told : List Told) → Goes (channel_in old) o told
    → StepNow (channel_in old) moment piece (Ok step) (channel_in new) o told before now)
    (same_limits : limits_of (channel_in new) ≡ limits_of (channel_in old)) (same_channel : channel_of (channel_in new) ≡ channel_of (channel_in old)) where
  by : StepBy (channel_of (channel_in old)) moment piece step.end step.taken step.out.items (channel_in new) up k.serves.told b.first
      (answer_times k.serves.told b.moments) before now
  by =
      as-told (channel_in old) (channel_in new) moment piece up k.serves.told b.first (answer_times k.serves.told b.moments) before now (Ok step)
      k.serves.stands same_channel (answers up k.serves.told k.serves.stands.goes)

  by_end : (end : Option Ending) → step.end ≡ end → StepBy (channel_of (channel_in old)) moment piece end step.taken step.out.items
      (channel_in new) up k.serves.told b.first (answer_times k.serves.told b.moments) before now
  by_end end is =
      subst (λ (e : Option Ending). StepBy (channel_of (channel_in old)) moment piece e step.taken step.out.items (channel_in new) up k.serves.told b.first
      (answer_times k.serves.told b.moments) before now) is by

  -- the connection goes on, and then the answers have the times after those that this one carried
  pub keeps_on : step.end ≡ None → (later : ℕ → DateTime) → ((m : ℕ) → later m ≡ times (times_in step.out.items + m))
      → Keeps b new now later (up ++ take step.taken piece) (down ++ step.out.items) read stage.Going
  keeps_on is later are =
      goes_keeps b old new before now moment times up down piece read step.taken step.out.items k is_due same_limits same_channel (by_end None is)
      (subst (λ (e : Option Ending). NowBy (channel_in old) moment piece e step.taken step.out.items (channel_in new) up k.serves.told before now) is
      (answers up k.serves.told k.serves.stands.goes)) later are

  pub keeps_ended : (end : Ending) → step.end ≡ Some end → Keeps b new now times (up ++ take step.taken piece) (down ++ step.out.items) read (stage.Ended end)
  keeps_ended end is = ends_keeps b old new before now moment times up down piece read step.taken step.out.items k is_due same_limits same_channel end
      (by_end (Some end) is)

  taken_by : (end : Option Ending) → step.end ≡ end → StepTakes piece step → 0 < length piece → 0 < step.taken
  taken_by None is takes some = takes.1 is some
  taken_by (Some end) is takes some = by_count step.taken refl
    where
      by_count : (m : ℕ) → step.taken ≡ m → 0 < step.taken
      by_count zero none =
          absurd (ends_some b old new before now moment times up down piece read step.taken step.out.items k is_due same_limits same_channel end
          (by_end (Some end) is) none)
      by_count (suc m) more = omega (arith, more)

  -- something is taken
  pub takes_some : StepTakes piece step → 0 < length piece → 0 < step.taken
  takes_some takes some = taken_by step.end refl takes some

-- what a line keeps whose server took these octets
pub keeps_where : (b : Beginning) (server : Server) (now : State) (times : ℕ → DateTime) (up : List ℕ) → HasTakenAll b server times now up
    → Keeps b server now times up (server_output b up) 0 stage.Going
keeps_where b server now times up s =
    let frames = s.stands.goes.frames in
    let rest = s.stands.goes.rest in
    record {
      down_is = refl;
      within = omega arith;
      serves = s;
      leaves =
          sym s.stands.state_is
          ∙ (ap (λ (c : ℕ). (state_after c b.first s.told (answer_times s.told b.moments)).state) s.channel_is
          ∙ sym (left_at b (channel_in server) s.limits_are s.channel_is up frames rest Going s.told s.stands.goes.stands.run s.stands.goes.told_is));
      ends = end_at b (channel_in server) s.limits_are s.channel_is up frames rest Going s.told s.stands.goes.stands.run s.stands.goes.told_is;
    }

-- the same, by other names
pub kept_as : (b : Beginning) (server : Server) (now : State) (times : ℕ → DateTime) (up down : List ℕ) (read : ℕ) (s : Stage) (up' down' : List ℕ) (s' : Stage)
    → Keeps b server now times up down read s → up' ≡ up → down' ≡ down → s' ≡ s → Keeps b server now times up' down' read s'
kept_as b server now times up down read s up' down' s' k p q r =
    subst (λ (u : List ℕ). Keeps b server now times u down' read s') (sym p)
    (subst (λ (d : List ℕ). Keeps b server now times up d read s') (sym q) (subst (λ (t : Stage). Keeps b server now times up down read t) (sym r) k))

-- ---- as it begins

none_said : (channel : ℕ) (first : State) → output_of channel first [] Going [] ≡ []
unfolding output_of
none_said channel first = refl

-- before any octet came nothing was said
pub said_none : (b : Beginning) → server_output b [] ≡ []
unfolding received closings
said_none b =
    said_by_run b [] [] [] Going (run_nil (rules_by b) refl)
    ∙ (ap (λ (t : List Told). output_of b.channel b.first t Going (answer_times t b.moments)) (no_events (rules_by b)) ∙ none_said b.channel b.first)

-- a server that waits for a client took no octet
pub serves_first : (b : Beginning) (server : Server) (times : ℕ → DateTime) → ServerStands (channel_in server) [] [] b.first [] b.first
    → limits_of (channel_in server) ≡ b.limits → channel_of (channel_in server) ≡ b.channel → ((n : ℕ) → b.moments n ≡ times n)
    → HasTakenAll b server times b.first []
serves_first b server times stands limits_are channel_is are = record {
  told = [];
  stands = stands;
  limits_are = limits_are;
  channel_is = channel_is;
  times_are = λ n. ap b.moments (from_none n) ∙ are n;
}
  where
    from_none : (n : ℕ) → 0 + n ≡ n
    from_none n = omega arith

-- a server that waits for a client
pub keeps_first : (b : Beginning) (server : Server) (limits : Limits) (channel : ℕ) (first : State) (moments times : ℕ → DateTime)
    → b ≡ record { limits = limits; channel = channel; first = first; moments = moments } → ((n : ℕ) → moments n ≡ times n)
    → ServerStands (channel_in server) [] [] first [] first → limits_of (channel_in server) ≡ limits → channel_of (channel_in server) ≡ channel
    → Keeps b server first times [] [] 0 stage.Going
keeps_first b server limits channel first moments times is are stands limits_are channel_is =
    subst (λ (c : Beginning). Keeps c server first times [] [] 0 stage.Going) (sym is)
    (kept_as here server first times [] (server_output here []) 0 stage.Going [] [] stage.Going
    (keeps_where here server first times [] (serves_first here server times stands limits_are channel_is are)) refl (sym (said_none here)) refl)
  where
    here : Beginning
    here = record { limits = limits; channel = channel; first = first; moments = moments }

-- the same, where what was said more has another name
pub kept_more : (b : Beginning) (server : Server) (now : State) (times : ℕ → DateTime) (up down out : List ℕ) (read : ℕ) (s : Stage) (up' down' out' : List ℕ)
    (s' : Stage)
    → Keeps b server now times up (down ++ out) read s → up' ≡ up → down' ≡ down ++ out' → out' ≡ out → s' ≡ s → Keeps b server now times up' down' read s'
kept_more b server now times up down out read s up' down' out' s' k p q r t =
    kept_as b server now times up (down ++ out) read s up' down' s' k p (q ∙ ap (λ (o : List ℕ). down ++ o) r) t
