-- Where a server stands over the events of a connection, by each change and each step.
use Rattle.std.specs.Prelude.{◌≡◌, ℕ, List, [], ◌∷◌, ◌++◌, length, take, Option, None, Some, Result, Ok, Err}
use Rattle.std.specs.List.{flat_map}
use Rattle.std.proofs.Common.{refl, sym, ◌∙◌, ap, subst, inl, inr, append_assoc, append-nil, arith}
use Rattle.ua_builtin.specs.declared.date_time.DateTime.{DateTime}
use Rattle.ua_nodes.specs.Table.{Nodes}
use Rattle.ua_channel.specs.Agreement.{Agreement}
use Rattle.ua_channel.specs.Received.{latest_behind}
use Rattle.ua_channel.specs.ServerPlaces.{agreements_in, agreed_by}
use Rattle.ua_frame.specs.Run.{Stopped}
use Rattle.ua_channel.specs.ServerStands.{limits_of, channel_of, next_of, Goes}
use Rattle.ua_channel.specs.ServerTold.{Told, Agreed, Opened, Asked, GaveUp, Closed}
use Rattle.ua_channel.specs.declared.server.ServerChannel.{ServerChannel}
use Rattle.ua_server.specs.History.{ConnectionEvent, Heard, Became, OverBy, StandsOver, StepOver, IsUndisturbed}
use Rattle.ua_server.specs.History.{course_over, with_changes, event_answer, heard_at, moments_of, output_over, told_in}
use Rattle.ua_server.specs.Now.{NowBy, NowGoes, StepNow, standing}
use Rattle.ua_server.specs.Said.{Course, last_words, state_after, course_after, said_of, say, start, used_in}
use Rattle.ua_server.specs.State.{State, with_session}
use Rattle.ua_server.specs.declared.endpoint.Endpoint.{Endpoint}
use Rattle.ua_server.specs.declared.session.Session.{Session}
use Rattle.ua_server.specs.Stepping.{ServerStands, StepBreaks, StepStops, given_up}
use Rattle.ua_server.specs.declared.step.End.{End as Ending}
use Rattle.ua_server.specs.declared.step.Step.{Step}
use Rattle.ua_server.specs.declared.step.StepFault.{StepFault}
use Rattle.ua_server.specs.declared.step.StepFault.TheVariants as step_fault
use Rattle.ua_server.specs.declared.step.End.TheVariants as ending
use Rattle.ua_server.proofs.Steps.{course, same-course}

-- ---- in two parts

pub course_over-append : (channel : ℕ) (c : Course) (a b : List ConnectionEvent)
    → course_over channel c (a ++ b) ≡ course_over channel (course_over channel c a) b
course_over-append channel c [] b = refl
course_over-append channel c (h ∷ a) b = course_over-append channel (event_answer channel c h).1 a b

pub output_over-append : (channel : ℕ) (c : Course) (a b : List ConnectionEvent) → output_over channel c (a ++ b) ≡ output_over channel c a
    ++ output_over channel (course_over channel c a) b
output_over-append channel c [] b = refl
output_over-append channel c (h ∷ a) b =
    rw (output_over-append channel (event_answer channel c h).1 a b)
    (sym (append_assoc (event_answer channel c h).0 (output_over channel (event_answer channel c h).1 a)
    (output_over channel (course_over channel (event_answer channel c h).1 a) b)))

pub told-heard : (hs : List ConnectionEvent) (moment : DateTime) (told : List Told) → told_in (hs ++ heard_at moment told) ≡ told_in hs ++ told
told-heard [] moment [] = refl
told-heard [] moment (t ∷ told) = rw (told-heard [] moment told)
told-heard (Heard t m ∷ hs) moment told = rw (told-heard hs moment told)
told-heard (Became nodes made ∷ hs) moment told = told-heard hs moment told

told-became : (hs : List ConnectionEvent) (nodes : Nodes) (made : ℕ) → told_in (hs ++ Became nodes made ∷ []) ≡ told_in hs
told-became [] nodes made = refl
told-became (Heard t m ∷ hs) nodes made = rw (told-became hs nodes made)
told-became (Became old before ∷ hs) nodes made = told-became hs nodes made

-- ---- how far a server is that stands

moments-after : (channel : ℕ) (c : Course) (hs : List ConnectionEvent) → c.moments ≡ [] → (course_over channel c hs).moments ≡ []
moments-after channel c [] e = e
moments-after channel c (Heard t m ∷ hs) e = moments-after channel (event_answer channel c (Heard t m)).1 hs refl
moments-after channel c (Became nodes made ∷ hs) e = moments-after channel (event_answer channel c (Became nodes made)).1 hs refl

agreement-after : (channel : ℕ) (c : Course) (hs : List ConnectionEvent)
    → (course_over channel c hs).agreement ≡ latest_behind c.agreement (flat_map agreements_in (told_in hs))
agreement-after channel c [] = refl
agreement-after channel c (Heard (Agreed a) m ∷ hs) = agreement-after channel (event_answer channel c (Heard (Agreed a) m)).1 hs
agreement-after channel c (Heard (Opened id handle token lifetime) m ∷ hs) =
    agreement-after channel (event_answer channel c (Heard (Opened id handle token lifetime) m)).1 hs
agreement-after channel c (Heard (Asked id token octets) m ∷ hs) = agreement-after channel (event_answer channel c (Heard (Asked id token octets) m)).1 hs
agreement-after channel c (Heard (GaveUp id) m ∷ hs) = agreement-after channel (event_answer channel c (Heard (GaveUp id) m)).1 hs
agreement-after channel c (Heard Closed m ∷ hs) = agreement-after channel (event_answer channel c (Heard Closed m)).1 hs
agreement-after channel c (Became nodes made ∷ hs) = agreement-after channel (event_answer channel c (Became nodes made)).1 hs

pub course-after : (x : ServerChannel) (octets : List ℕ) (hs : List ConnectionEvent) (first now : State) → StandsOver x octets hs first now
    → course_over (channel_of x) (start first []) hs ≡ course now (next_of x) [] (agreed_by (told_in hs))
course-after x octets hs first now s =
    same-course (course_over (channel_of x) (start first []) hs) now (next_of x) [] (agreed_by (told_in hs)) s.state_is s.number_is
    (moments-after (channel_of x) (start first []) hs refl) (agreement-after (channel_of x) (start first []) hs)

-- ---- the nodes change

pub history-became : (x : ServerChannel) (octets : List ℕ) (hs : List ConnectionEvent) (first now : State) (nodes : Nodes) (made : ℕ)
    → StandsOver x octets hs first now → StandsOver x octets (hs ++ Became nodes made ∷ []) first (with_changes now nodes made)
history-became x octets hs first now nodes made s =
    let behind = course_over-append (channel_of x) (start first []) hs (Became nodes made ∷ []) in
    record {
      goes = rw (told-became hs nodes made) s.goes;
      state_is = rw (behind, s.state_is);
      number_is = rw behind s.number_is;
    }

-- another connection, or the program, changed the state; this one has its own session
pub history-beside : (x : ServerChannel) (octets : List ℕ) (hs : List ConnectionEvent) (first s s' : State) (mine : Option Session) → s'.endpoint ≡ s.endpoint
    → s'.memory_limit ≡ s.memory_limit
    → StandsOver x octets hs first (with_session s mine) → StandsOver x octets (hs ++ Became s'.nodes s'.made ∷ []) first (with_session s' mine)
history-beside x octets hs first s s' mine e l h =
    subst (λ (n : State). StandsOver x octets (hs ++ Became s'.nodes s'.made ∷ []) first n)
    (ap (λ (p : Endpoint). record { nodes = s'.nodes; endpoint = p; memory_limit = s.memory_limit; made = s'.made; session = mine }) (sym e)
    ∙ ap (λ (o : Option ℕ). record { nodes = s'.nodes; endpoint = s'.endpoint; memory_limit = o; made = s'.made; session = mine }) (sym l))
    (history-became x octets hs first (with_session s mine) s'.nodes s'.made h)

-- ---- a step

quiet-after : (channel : ℕ) (s : State) (n : ℕ) (a : Option Agreement) (moment : DateTime) (ids : List ℕ) (more : List Told)
    → course_over channel (course s n [] a) (heard_at moment (given_up ids ++ more)) ≡ course_over channel (course s n [] a) (heard_at moment more)
quiet-after channel s n a moment [] more = refl
quiet-after channel s n a moment (id ∷ ids) more = quiet-after channel s n a moment ids more

quiet-output : (channel : ℕ) (s : State) (n : ℕ) (a : Option Agreement) (moment : DateTime) (ids : List ℕ) (more : List Told)
    → output_over channel (course s n [] a) (heard_at moment (given_up ids ++ more)) ≡ output_over channel (course s n [] a) (heard_at moment more)
quiet-output channel s n a moment [] more = refl
quiet-output channel s n a moment (id ∷ ids) more = quiet-output channel s n a moment ids more

-- at most one thing is told at a moment
one-output : (channel : ℕ) (s : State) (n : ℕ) (a : Option Agreement) (moment : DateTime) (new : ServerChannel) (octets piece : List ℕ) (k : ℕ) (out : List ℕ)
    (told more : List Told) → StepStops new octets piece k out told more
    → output_over channel (course s n [] a) (heard_at moment more) ≡ said_of channel (standing s n a more moment) more
one-output channel s n a moment new octets piece k out told [] h = refl
one-output channel s n a moment new octets piece k out told (t ∷ []) h = refl
one-output channel s n a moment new octets piece k out told (t ∷ (u ∷ more)) h = absurd h

one-state : (channel : ℕ) (s : State) (n : ℕ) (a : Option Agreement) (moment : DateTime) (new : ServerChannel) (octets piece : List ℕ) (k : ℕ) (out : List ℕ)
    (told more : List Told) → StepStops new octets piece k out told more
    → (course_over channel (course s n [] a) (heard_at moment more)).state ≡ (course_after channel (standing s n a more moment) more).state
one-state channel s n a moment new octets piece k out told [] h = refl
one-state channel s n a moment new octets piece k out told (t ∷ []) h = refl
one-state channel s n a moment new octets piece k out told (t ∷ (u ∷ more)) h = absurd h

one-number : (channel : ℕ) (s : State) (n : ℕ) (a : Option Agreement) (moment : DateTime) (new : ServerChannel) (octets piece : List ℕ) (k : ℕ) (out : List ℕ)
    (told more : List Told) → StepStops new octets piece k out told more
    → (course_over channel (course s n [] a) (heard_at moment more)).number ≡ (course_after channel (standing s n a more moment) more).number
one-number channel s n a moment new octets piece k out told [] h = refl
one-number channel s n a moment new octets piece k out told (t ∷ []) h = refl
one-number channel s n a moment new octets piece k out told (t ∷ (u ∷ more)) h = absurd h

-- behind what a server stands after, messages were given up, and then frames told more
pub course-behind : (x : ServerChannel) (octets : List ℕ) (hs : List ConnectionEvent) (first before : State) (moment : DateTime) (ids : List ℕ)
    (more : List Told) → StandsOver x octets hs first before
    → course_over (channel_of x) (start first []) (hs ++ heard_at moment (given_up ids ++ more)) ≡ course_over (channel_of x)
    (course before (next_of x) [] (agreed_by (told_in hs))) (heard_at moment more)
course-behind x octets hs first before moment ids more s =
    course_over-append (channel_of x) (start first []) hs (heard_at moment (given_up ids ++ more))
    ∙ (rw (course-after x octets hs first before s) (quiet-after (channel_of x) before (next_of x) (agreed_by (told_in hs)) moment ids more))

pub output-behind : (x : ServerChannel) (octets : List ℕ) (hs : List ConnectionEvent) (first before : State) (moment : DateTime) (ids : List ℕ)
    (more : List Told) → StandsOver x octets hs first before
    → output_over (channel_of x) (start first []) (hs ++ heard_at moment (given_up ids ++ more))
    ≡ output_over (channel_of x) (start first []) hs ++ output_over (channel_of x) (course before (next_of x) [] (agreed_by (told_in hs)))
    (heard_at moment more)
output-behind x octets hs first before moment ids more s =
    output_over-append (channel_of x) (start first []) hs (heard_at moment (given_up ids ++ more))
    ∙ rw (ap (λ (c : Course). output_over (channel_of x) c (heard_at moment (given_up ids ++ more))) (course-after x octets hs first before s)
    ∙ quiet-output (channel_of x) before (next_of x) (agreed_by (told_in hs)) moment ids more)

pub told-behind : (hs : List ConnectionEvent) (moment : DateTime) (ids : List ℕ) (more : List Told)
    → (told_in hs ++ given_up ids) ++ more ≡ told_in (hs ++ heard_at moment (given_up ids ++ more))
told-behind hs moment ids more = append_assoc (told_in hs) (given_up ids) more ∙ sym (told-heard hs moment (given_up ids ++ more))

-- what a step comes to, apart from the step itself
abbrev Found : ServerChannel → ℕ → DateTime → Option Ending → List ℕ → List ℕ → List ConnectionEvent → State → State → State → Type 0
Found new channel moment end octets out hs first before now =
    (told : List Told) × ((course_over channel (start first []) (hs ++ heard_at moment told)).state ≡ now)
    × OverBy end new channel octets out hs (heard_at moment told) first before now

with-nothing : (a b c : List ℕ) → a ≡ b ++ [] → c ≡ [] → a ++ [] ≡ b ++ c
with-nothing a b c e n = append-nil a ∙ (e ∙ rw (sym n))

with-words : (a b c w : List ℕ) → a ≡ b ++ [] → c ≡ w → a ++ w ≡ b ++ c
with-words a b c w e n = rw (e ∙ append-nil b, sym n)

module _ (old new : ServerChannel) (moment : DateTime) (piece octets : List ℕ) (hs : List ConnectionEvent) (first before now : State)
    (s : StandsOver old octets hs first before) (same : channel_of new ≡ channel_of old) where
  -- it goes on: the state that all events leave, where it stands behind them, and what is sent over them
  pub goes-state : (n : ℕ) (out : List ℕ) (g : NowGoes old moment piece n out new octets (told_in hs) before now)
      → (course_over (channel_of old) (start first []) (hs ++ heard_at moment (given_up g.quiet ++ g.more))).state ≡ now
  goes-state n out g =
      rw (course-behind old octets hs first before moment g.quiet g.more s)
      (one-state (channel_of old) before (next_of old) (agreed_by (told_in hs)) moment new octets piece n out (told_in hs ++ given_up g.quiet) g.more
      g.stops
      ∙ sym g.state_is)

  pub goes-stands : (n : ℕ) (out : List ℕ) (g : NowGoes old moment piece n out new octets (told_in hs) before now)
      → StandsOver new (octets ++ take n piece) (hs ++ heard_at moment (given_up g.quiet ++ g.more)) first now
  goes-stands n out g =
      let told = given_up g.quiet ++ g.more in
      record {
        goes = rw (← told-behind hs moment g.quiet g.more) g.goes;
        state_is = rw same (goes-state n out g);
        number_is = rw (same, course-behind old octets hs first before moment g.quiet g.more s)
            (one-number (channel_of old) before (next_of old) (agreed_by (told_in hs)) moment new octets piece n out (told_in hs ++ given_up g.quiet) g.more
            g.stops ∙ sym g.number_is);
      }

  pub goes-output : (n : ℕ) (out : List ℕ) (g : NowGoes old moment piece n out new octets (told_in hs) before now)
      → output_over (channel_of old) (start first []) (hs ++ heard_at moment (given_up g.quiet ++ g.more)) ≡ output_over (channel_of old) (start first []) hs
      ++ out
  goes-output n out g =
      output-behind old octets hs first before moment g.quiet g.more s
      ∙ rw (one-output (channel_of old) before (next_of old) (agreed_by (told_in hs)) moment new octets piece n out (told_in hs ++ given_up g.quiet) g.more
      g.stops
      ∙ sym g.out_is)

  ended : (end : Option Ending) (n : ℕ) (out : List ℕ) → NowBy old moment piece end n out new octets (told_in hs) before now
      → Found new (channel_of old) moment end (octets ++ take n piece) out hs first before now
  ended None n out g = (given_up g.quiet ++ g.more, goes-state n out g, (goes-stands n out g, goes-output n out g))
  ended (Some ending.Closed) n out g =
      let ids = g.0.quiet in
      let more = Closed ∷ [] in (
        given_up ids ++ more,
        rw (course-behind old octets hs first before moment ids more s) (sym g.2),
        (
          rw (← told-behind hs moment ids more) g.0.closed,
          g.2,
          with-nothing (output_over (channel_of old) (start first []) (hs ++ heard_at moment (given_up ids ++ more)))
              (output_over (channel_of old) (start first []) hs) out
              (output-behind old octets hs first before moment ids more s) g.1,
        ),
      )
  ended (Some (ending.Refused code)) n out g =
      let ids = g.0.quiet in (
        given_up ids ++ [],
        rw (course-behind old octets hs first before moment ids [] s) (sym g.2),
        (
          rw (← sym (append-nil (told_in hs ++ given_up ids))
              ∙ told-behind hs moment ids []) g.0.refused,
          g.2,
          with-words (output_over (channel_of old) (start first []) (hs ++ heard_at moment (given_up ids ++ [])))
              (output_over (channel_of old) (start first []) hs) out (last_words (Stopped code.code))
              (output-behind old octets hs first before moment ids [] s) g.1,
        ),
      )
  ended (Some ending.NoClose) n out g = absurd g
  ended (Some ending.Cut) n out g = absurd g

  starved : StepBreaks (limits_of old) (channel_of old) moment piece new octets (told_in hs) before now
      → StepOver (limits_of old) (channel_of old) moment piece (Err step_fault.OutOfMemory) new octets hs first before now
  starved (done, inl stays) = record {
    told = [];
    left_is = rw (course-behind old octets hs first before moment [] [] s) (sym stays);
    comes_to = (done, inl refl);
  }
  starved (done, inr m) = record {
    told = given_up m.ends.quiet ++ Asked m.ends.id m.ends.token m.message ∷ [];
    left_is = rw (course-behind old octets hs first before moment m.ends.quiet (Asked m.ends.id m.ends.token m.message ∷ []) s) (sym m.now_is);
    comes_to = (done, inr (m.message, m.ends, refl));
  }

  by-result : (result : Result Step StepFault) → StepNow old moment piece result new octets (told_in hs) before now
      → StepOver (limits_of old) (channel_of old) moment piece result new octets hs first before now
  by-result (Ok step) g = let f = ended step.end step.taken step.out.items g in record { told = f.0; left_is = f.1; comes_to = f.2 }
  by-result (Err step_fault.OutOfMemory) g = starved g
  by-result (Err step_fault.Closed) g = absurd g

pub step_over : (old new : ServerChannel) (moment : DateTime) (piece octets : List ℕ) (hs : List ConnectionEvent) (first before now : State)
    (result : Result Step StepFault)
    → StandsOver old octets hs first before → channel_of new ≡ channel_of old
    → StepNow old moment piece result new octets (told_in hs) before now
    → StepOver (limits_of old) (channel_of old) moment piece result new octets hs first before now
step_over old new moment piece octets hs first before now result s same g = by-result old new moment piece octets hs first before now s same result g

-- ---- where no nodes change, it is what it was

pub same-left : (channel : ℕ) (s : State) (n : ℕ) (a : Option Agreement) (hs : List ConnectionEvent) → IsUndisturbed hs
    → course_over channel (course s n [] a) hs ≡ course_after channel (course s n (moments_of hs) a) (told_in hs)
same-left channel s n a [] u = refl
same-left channel s n a (Heard (Agreed g) m ∷ hs) u = same-left channel s n (Some g) hs u
same-left channel s n a (Heard (Opened id handle token lifetime) m ∷ hs) u =
    let c = (say channel (course s n (m ∷ moments_of hs) a) (Opened id handle token lifetime)).1 in
    same-left channel c.state c.number c.agreement hs u
same-left channel s n a (Heard (Asked id token octets) m ∷ hs) u =
    let c = (say channel (course s n (m ∷ moments_of hs) a) (Asked id token octets)).1 in
    same-left channel c.state c.number c.agreement hs u
same-left channel s n a (Heard (GaveUp id) m ∷ hs) u = same-left channel s n a hs u
same-left channel s n a (Heard Closed m ∷ hs) u = same-left channel s n a hs u
same-left channel s n a (Became nodes made ∷ hs) u = absurd u

pub same-said : (channel : ℕ) (s : State) (n : ℕ) (a : Option Agreement) (hs : List ConnectionEvent) → IsUndisturbed hs
    → output_over channel (course s n [] a) hs ≡ said_of channel (course s n (moments_of hs) a) (told_in hs)
same-said channel s n a [] u = refl
same-said channel s n a (Heard (Agreed g) m ∷ hs) u = rw (same-said channel s n (Some g) hs u)
same-said channel s n a (Heard (Opened id handle token lifetime) m ∷ hs) u =
    let c = (say channel (course s n (m ∷ moments_of hs) a) (Opened id handle token lifetime)).1 in
    ap (λ (o : List ℕ). (say channel (course s n (m ∷ moments_of hs) a) (Opened id handle token lifetime)).0 ++ o)
    (same-said channel c.state c.number c.agreement hs u)
same-said channel s n a (Heard (Asked id token octets) m ∷ hs) u =
    let c = (say channel (course s n (m ∷ moments_of hs) a) (Asked id token octets)).1 in
    rw (same-said channel c.state c.number c.agreement hs u)
same-said channel s n a (Heard (GaveUp id) m ∷ hs) u = same-said channel s n a hs u
same-said channel s n a (Heard Closed m ∷ hs) u = same-said channel s n a hs u
same-said channel s n a (Became nodes made ∷ hs) u = absurd u

all-used : (hs : List ConnectionEvent) → IsUndisturbed hs → length (moments_of hs) ≡ used_in (told_in hs)
all-used [] u = refl
all-used (Heard (Agreed g) m ∷ hs) u = let more = all-used hs u in omega (arith, more)
all-used (Heard (Opened id handle token lifetime) m ∷ hs) u = let more = all-used hs u in omega (arith, more)
all-used (Heard (Asked id token octets) m ∷ hs) u = let more = all-used hs u in omega (arith, more)
all-used (Heard (GaveUp id) m ∷ hs) u = let more = all-used hs u in omega (arith, more)
all-used (Heard Closed m ∷ hs) u = let more = all-used hs u in omega (arith, more)
all-used (Became nodes made ∷ hs) u = absurd u

-- a server that nothing else changes stands after what it was told
pub stands-alone : (x : ServerChannel) (octets : List ℕ) (hs : List ConnectionEvent) (first now : State) → StandsOver x octets hs first now → IsUndisturbed hs
    → ServerStands x octets (told_in hs) first (moments_of hs) now
unfolding state_after
stands-alone x octets hs first now s u =
    let same = same-left (channel_of x) first 1 None hs u in
    record {
      goes = s.goes;
      state_is = sym (rw same) ∙ s.state_is;
      number_is = sym (rw same) ∙ s.number_is;
      used = all-used hs u;
    }

pub history_first : (x : ServerChannel) → Goes x [] [] → next_of x ≡ 1 → (first : State) → StandsOver x [] [] first first
history_first x goes next first = record { goes = goes; state_is = refl; number_is = sym next }
