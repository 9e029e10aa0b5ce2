-- What a step answers by what stands is what it answers of all that was told, where a first state leaves what stands.
use Rattle.std.specs.Prelude.{◌≡◌, ℕ, List, [], ◌∷◌, ◌++◌, take, Option, None, Some, Result, Ok, Err}
use Rattle.std.proofs.Common.{sym, ◌∙◌, refl, subst, append-nil}
use Rattle.ua_builtin.specs.declared.date_time.DateTime.{DateTime}
use Rattle.ua_frame.specs.Run.{Stopped}
use Rattle.ua_channel.specs.ServerPlaces.{agreed_by}
use Rattle.ua_channel.specs.ServerStands.{limits_of, channel_of, next_of, Goes}
use Rattle.ua_channel.specs.ServerTold.{Told}
use Rattle.ua_channel.specs.declared.server.ServerChannel.{ServerChannel}
use Rattle.ua_server.specs.Now.{NowBy, StepNow, standing}
use Rattle.ua_server.specs.Requests.{request_at}
use Rattle.ua_server.specs.Said.{last_words, course_after, said_of, say}
use Rattle.ua_server.specs.State.{State}
use Rattle.ua_server.specs.Stepping.{ServerStands, StandsBy, StepAnswers, StepBy, StepCloses, StepGoes, StepRefuses, StepStands, StepStops, given_up}
use Rattle.ua_server.specs.declared.step.End.{End as Ending}
use Rattle.ua_server.specs.declared.step.End.TheVariants as ending
use Rattle.ua_server.specs.declared.step.Step.{Step}
use Rattle.ua_server.specs.declared.step.StepFault.{StepFault}
use Rattle.ua_server.specs.declared.step.StepFault.TheVariants as step_fault
use Rattle.ua_server.proofs.Steps.{goes-silent, goes-saying, closes, refuses}

module _ (old new : ServerChannel) (moment : DateTime) (piece octets : List ℕ) (told : List Told) (first : State) (ms : List DateTime) (before now : State)
    (s : ServerStands old octets told first ms before) (same : channel_of new ≡ channel_of old) where
  goes-by : (n : ℕ) (out quiet : List ℕ) (more : List Told) → StepStops new octets piece n out (told ++ given_up quiet) more
      → Goes new (octets ++ take n piece) ((told ++ given_up quiet) ++ more)
      → out ≡ said_of (channel_of old) (standing before (next_of old) (agreed_by told) more moment) more
      → now ≡ (course_after (channel_of old) (standing before (next_of old) (agreed_by told) more moment) more).state
      → next_of new ≡ (course_after (channel_of old) (standing before (next_of old) (agreed_by told) more moment) more).number
      → StepGoes (channel_of old) moment piece n out new octets told first ms now
  goes-by n out quiet [] stops goes said state number =
      subst (λ (o : List ℕ). StepGoes (channel_of old) moment piece n o new octets told first ms now) (sym said)
      (subst (λ (t : State). StepGoes (channel_of old) moment piece n [] new octets told first ms t) (sym state)
      (goes-silent old new moment piece n octets told first ms before quiet s same stops.0
      (subst (λ (t : List Told). Goes new (octets ++ take n piece) t) (append-nil (told ++ given_up quiet)) goes) number))
  goes-by n out quiet (t ∷ []) stops goes said state number =
      let c = standing before (next_of old) (agreed_by told) (t ∷ []) moment in
      (goes-saying old new moment piece n octets told first ms before quiet s same (request_at (channel_of old) c t) t out now (stops.0, stops.1) stops.3
      (record {
        out_is = sym (said ∙ append-nil (say (channel_of old) c t).0);
        state_is = sym state;
        number_is = sym number;
        answered = stops.2;
        request_is = refl;
      }))
  goes-by n out quiet (t ∷ (u ∷ more)) stops goes said state number = absurd stops

  ends-by : (end : Option Ending) (n : ℕ) (out : List ℕ) → NowBy old moment piece end n out new octets told before now
      → StepBy (channel_of old) moment piece end n out new octets told first ms before now
  ends-by None n out g = goes-by n out g.quiet g.more g.stops g.goes g.out_is g.state_is g.number_is
  ends-by (Some ending.Closed) n out g =
      subst (λ (o : List ℕ). StepCloses (channel_of old) piece n o new octets told first ms before now) (sym g.1)
      (subst (λ (t : State). StepCloses (channel_of old) piece n [] new octets told first ms before t) (sym g.2)
      (closes old new moment piece n octets told first ms before g.0.quiet s same g.0.some g.0.closed))
  ends-by (Some (ending.Refused code)) n out g =
      subst (λ (o : List ℕ). StepRefuses (channel_of old) code.code piece n o new octets told first ms before now) (sym g.1)
      (subst (λ (t : State). StepRefuses (channel_of old) code.code piece n (last_words (Stopped code.code)) new octets told first ms before t) (sym g.2)
      (refuses old new moment piece n octets told first ms before g.0.quiet s same code.code g.0.within g.0.refused))
  ends-by (Some ending.NoClose) n out g = absurd g
  ends-by (Some ending.Cut) n out g = absurd g

  step-by : (result : Result Step StepFault) → StepNow old moment piece result new octets told before now
      → StepAnswers (limits_of old) (channel_of old) moment piece result new octets told first ms before now
  step-by (Ok step) g = ends-by step.end step.taken step.out.items g
  step-by (Err step_fault.OutOfMemory) g = g
  step-by (Err step_fault.Closed) g = absurd g

-- what stands answers as all that was told
pub as-told : (old new : ServerChannel) (moment : DateTime) (piece octets : List ℕ) (told : List Told) (first : State) (moments : List DateTime)
    (before now : State) (result : Result Step StepFault)
    → ServerStands old octets told first moments before → channel_of new ≡ channel_of old
    → StepNow old moment piece result new octets told before now
    → StepAnswers (limits_of old) (channel_of old) moment piece result new octets told first moments before now
as-told old new moment piece octets told first moments before now result s same g =
    step-by old new moment piece octets told first moments before now s same result g

-- ---- where a step leaves a server

module _ (old new : ServerChannel) (moment : DateTime) (piece octets : List ℕ) (told : List Told) (before now : State) where
  left-by : (end : Option Ending) (n : ℕ) (out : List ℕ) → NowBy old moment piece end n out new octets told before now
      → StandsBy piece end n out new octets told
  left-by None n out g = record { quiet = g.quiet; more = g.more; stops = g.stops; goes = g.goes }
  left-by (Some ending.Closed) n out g = g.0
  left-by (Some (ending.Refused code)) n out g = g.0
  left-by (Some ending.NoClose) n out g = g
  left-by (Some ending.Cut) n out g = g

  pub stands-now : (result : Result Step StepFault) → StepNow old moment piece result new octets told before now → StepStands piece result new octets told
  stands-now (Ok step) g = left-by step.end step.taken step.out.items g
  stands-now (Err step_fault.OutOfMemory) g = g.0
  stands-now (Err step_fault.Closed) g = g
