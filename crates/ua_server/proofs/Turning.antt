-- What a turn makes of a connection that is served: a step, and its answer written.
use Rattle.std.proofs.Common.{refl, sym, ◌∙◌, ap, length-append, append_assoc, arith, append-nil, take-append-drop}
use Rattle.std.proofs.lemmas.List.{length-drop, length-take-le}
use Rattle.std.specs.Prelude.{◌≡◌, List, [], length, Option, Some, None, ◌<◌, ℕ, ◌++◌, ◌+◌, ◌≤◌, take, Ok, Err, min, drop}
use Rattle.ua_builtin.specs.declared.date_time.DateTime.{DateTime}
use Rattle.ua_channel.proofs.Moving.{told-nothing}
use Rattle.ua_channel.specs.Line.{Traffic, IfTrafficKnown}
use Rattle.ua_channel.specs.Received.{listed}
use Rattle.ua_frame.specs.declared.limits.Limits.{Limits}
use Rattle.ua_server.proofs.Lasting.{last-written}
use Rattle.ua_server.proofs.LeftOver.{no-words}
use Rattle.ua_server.specs.Happening.{Event, noted_in}
use Rattle.ua_server.specs.History.{ConnectionEvent, course_over}
use Rattle.ua_server.specs.Said.{start}
use Rattle.ua_server.specs.Serving.{moments_in, greatest, MovesTraffic}
use Rattle.ua_server.specs.ServingOver.{AreMomentsFor, BrokenOver, requests_over, EndedOver, FailedOver}
use Rattle.ua_server.specs.ServingParts.{WritesCounted, sum_up_to_greatest, AdvancesTo, Exchanged, FailsTelling, OfEventsBetween, Owes, Steps, Turns, TurnsTo}
use Rattle.ua_server.specs.State.{State}
use Rattle.ua_server.specs.declared.serve_fault.ServeFault.{ServeFault}
use Rattle.ua_server.specs.declared.serving.Serving.{Serving}
use Rattle.ua_server.specs.declared.step.End.{End as Ending}
use Rattle.ua_server.specs.declared.step.Step.{Step}
use Rattle.ua_server.specs.declared.step.StepFault.{StepFault}
use Rattle.ua_server.specs.declared.watch.AnsweredRequest.{AnsweredRequest}
use Rattle.ua_server.specs.declared.step.End.TheVariants as ending
use Rattle.ua_server.specs.declared.serve_fault.ServeFault.TheVariants as fault

-- ---- counting what is written

counted-on : (n l k m : ℕ) → n ≡ min l greatest → m ≡ l + k → min (n + k) greatest ≡ min m greatest
counted-on n l k m e f = omega (arith, e, f)

count-all : (n : ℕ) (written out : List ℕ) → n ≡ min (length written) greatest → sum_up_to_greatest n (length out) ≡ min (length (written ++ out)) greatest
count-all n written out e = counted-on n (length written) (length out) (length (written ++ out)) e (length-append written out)

count-some : (n k : ℕ) (written out : List ℕ) → n ≡ min (length written) greatest → k ≤ length out
    → sum_up_to_greatest n k ≡ min (length (written ++ take k out)) greatest
count-some n k written out e h = counted-on n (length written) k (length (written ++ take k out)) e (length-append written (take k out)
    ∙ rw (length-take-le k out h))

module _ {A : Type 0} (changes : A → State → A → State → Type 0) (limits : Limits) (channel : ℕ) (first : State × A) where
  pub listed-one : (m : Option DateTime) → length (listed m) ≤ 1
  listed-one None = omega arith
  listed-one (Some m) = omega arith

  -- all is written
  owes-written : (x : Serving) (read out written : List ℕ) (ticks : List Event) (now : State × A)
      → Owes changes x limits channel first read out written ticks now
      → Owes changes (record x { written = sum_up_to_greatest x.written (length out) }) limits channel first read [] (written ++ out) ticks now
  owes-written x read out written ticks now o = record {
    limits_is = o.limits_is;
    channel_is = o.channel_is;
    history = o.history;
    acted = o.acted;
    acts_first = o.acts_first;
    moments_are = o.moments_are;
    stands = o.stands;
    kept_is = o.kept_is;
    greeted_is = o.greeted_is;
    count_is = count-all x.written written out o.count_is;
    said_is = o.said_is ∙ sym (append-nil (written ++ out));
    requests_are = o.requests_are;
    last = last-written limits channel first.0 read out written o.history out [] (sym (append-nil out)) o.last;
    asked = λ some. absurd (no-words [] refl some);
  }

  turned : (end : Option Ending) (x : Serving) (read out written : List ℕ) (ticks : List Event) (now : State × A)
      → AdvancesTo changes end x limits channel first read out written ticks now
      → TurnsTo changes end (record x { written = sum_up_to_greatest x.written (length out) }) limits channel first read (written ++ out) ticks now
  turned None x read out written ticks now o = owes-written x read out written ticks now o
  turned (Some end) x read out written ticks now e = record { history = e.history; acted = e.acted; acts_first = e.acts_first; ends = e.ends }

  some-left : (k : ℕ) (out unwritten : List ℕ) → unwritten ≡ drop k out → k < length out → 0 < length unwritten
  some-left k out unwritten is h = let l = ap length is ∙ length-drop k out in omega (arith, l, h)

  not-more : (k n : ℕ) → k < n → k ≤ n
  not-more k n h = omega (arith, h)

  above : (k n : ℕ) → k < n → 0 < n
  above k n h = omega (arith, h)

  -- what a connection that ended leaves
  ended-so : (end : Ending) (read written : List ℕ) (moments : List DateTime) (requested : List AnsweredRequest) (history : List ConnectionEvent) (now : State)
      → EndedOver end limits channel first.0 read written moments requested history now
      → ((course_over channel (start first.0 []) history).state ≡ now) × AreMomentsFor history moments
      × (requested ≡ requests_over channel (start first.0 []) history)
  ended-so ending.Closed read written moments requested history now e = (e.to.state_is, e.to.moments_are, e.to.requests_are)
  ended-so (ending.Refused code) read written moments requested history now e = (e.to.state_is, e.to.moments_are, e.to.requests_are)
  ended-so ending.NoClose read written moments requested history now e = absurd e
  ended-so ending.Cut read written moments requested history now e = absurd e

  -- the first of it is written
  unwritten : (end : Option Ending) (x : Serving) (read out written : List ℕ) (ticks : List Event) (now : State × A) (k : ℕ) → k < length out
      → AdvancesTo changes end x limits channel first read out written ticks now
      → FailsTelling changes (fault.Write (sum_up_to_greatest x.written k)) limits channel first read (written ++ take k out) ticks now
  unwritten None x read out written ticks now k h o = record {
    history = o.history;
    acted = o.acted;
    acts_first = o.acts_first;
    fails = (
      record {
        unwritten = drop k out;
        last = last-written limits channel first.0 read out written o.history (take k out) (drop k out) (sym (take-append-drop k out)) o.last;
        state_is = rw (sym o.channel_is) o.stands.state_is;
        moments_are = (listed x.moment, o.moments_are, listed-one x.moment);
      },
      some-left k out (drop k out) refl h,
      count-some x.written k written out o.count_is (not-more k (length out) h),
      o.asked (above k (length out) h),
      o.requests_are,
    );
  }
  unwritten (Some end) x read out written ticks now k h e =
      let t = ended-so end read (written ++ out) (moments_in ticks) (noted_in ticks) e.history now.0 e.ends in
      record {
        history = e.history;
        acted = e.acted;
        acts_first = e.acts_first;
        fails = (
          record {
            unwritten = drop k out;
            last = last-written limits channel first.0 read out written e.history (take k out) (drop k out) (sym (take-append-drop k out)) e.last;
            state_is = t.0;
            moments_are = t.1;
          },
          some-left k out (drop k out) refl h,
          count-some x.written k written out e.count_is (not-more k (length out) h),
          e.asked (above k (length out) h),
          t.2,
        );
      }

  -- more octets are read
  abbrev broken-more : (read more written : List ℕ) (moments : List DateTime) (history : List ConnectionEvent) (now : State)
      → BrokenOver limits channel first.0 read written moments history now → BrokenOver limits channel first.0 (read ++ more) written moments history now
  broken-more read more written moments history now b = record {
    unwritten = b.unwritten;
    last = record {
      front = b.last.front;
      behind = b.last.behind ++ more;
      front_is = rw b.last.front_is (append_assoc b.last.front b.last.behind more);
      before = b.last.before;
      word = b.last.word;
      moment = b.last.moment;
      later = b.last.later;
      history_is = b.last.history_is;
      silent = b.last.silent;
      ends = b.last.ends;
      part = b.last.part;
      written_is = b.last.written_is;
      said_is = b.last.said_is;
    };
    state_is = b.state_is;
    moments_are = b.moments_are;
  }

  failed-more : (f : ServeFault) (read more written : List ℕ) (moments : List DateTime) (requested : List AnsweredRequest) (history : List ConnectionEvent)
      (now : State)
      → FailedOver f limits channel first.0 read written moments requested history now
      → FailedOver f limits channel first.0 (read ++ more) written moments requested history now
  failed-more fault.Read read more written moments requested history now b = absurd b
  failed-more (fault.Write n) read more written moments requested history now b = (broken-more read more written moments history now b.0, b.1, b.2, b.3, b.4)
  failed-more fault.OutOfMemory read more written moments requested history now b = (broken-more read more written moments history now b.0, b.1)
  failed-more fault.TooLong read more written moments requested history now b = absurd b

  pub fails-on : (f : ServeFault) (read more written : List ℕ) (ticks : List Event) (now : State × A)
      → FailsTelling changes f limits channel first read written ticks now → FailsTelling changes f limits channel first (read ++ more) written ticks now
  fails-on f read more written ticks now t =
      record {
        history = t.history;
        acted = t.acted;
        acts_first = t.acts_first;
        fails = failed-more f read more written (moments_in ticks)
            (noted_in ticks) t.history now.0 t.fails;
      }

  front-back : (read piece : List ℕ) (n : ℕ) → (read ++ take n piece) ++ drop n piece ≡ read ++ piece
  front-back read piece n = append_assoc read (take n piece) (drop n piece) ∙ rw (take-append-drop n piece)

  module _ {M : Type 0} (gives : M → Event → M → Type 0) (m0 m1 : M) (la lb : Option Traffic) (piece read written : List ℕ) (given : List Event)
      (now : State × A) where
    pub turn-said : (step : Step) (y z : Serving)
        → OfEventsBetween gives m0 m1 (λ ts. Steps changes (Ok step) y limits channel first piece read written (given ++ ts) now)
        → z ≡ record y { written = sum_up_to_greatest y.written (length step.out.items) } → IfTrafficKnown (MovesTraffic [] step.out.items) la lb
        → Exchanged gives m0 m1 [] la lb (λ more ts. Turns changes (Ok (record { size = step.taken; outcome = step.end })) z limits channel first piece read
        (written ++ more) (given ++ ts) now)
    turn-said step y z a same moved = record {
      written = step.out.items;
      ticks = a.ticks;
      moved = moved;
      given = a.given;
      holds = rw same (turned step.end y (read ++ take step.taken piece) step.out.items written (given ++ a.ticks) now a.holds);
    }

    pub turn-unsaid : (step : Step) (y z : Serving) (f : ServeFault)
        → OfEventsBetween gives m0 m1 (λ ts. Steps changes (Ok step) y limits channel first piece read written (given ++ ts) now)
        → WritesCounted step.out.items (Err f) y z la lb
        → Exchanged gives m0 m1 [] la lb (λ more ts. Turns changes (Err f) z limits channel first piece read (written ++ more) (given ++ ts) now)
    turn-unsaid step y z f a s = record {
      written = take s.0 step.out.items;
      ticks = a.ticks;
      moved = s.3;
      given = a.given;
      holds = rw (← front-back read piece step.taken) (fails-on f (read ++ take step.taken piece) (drop step.taken piece) (written ++ take s.0 step.out.items)
          (given ++ a.ticks) now
          (rw s.1 (unwritten step.end y (read ++ take step.taken piece) step.out.items written (given ++ a.ticks) now s.0 s.2 a.holds)));
    }

    pub turn-broken : (g : StepFault) (y : Serving)
        → OfEventsBetween gives m0 m1 (λ ts. Steps changes (Err g) y limits channel first piece read written (given ++ ts) now)
        → Exchanged gives m0 m1 [] la la (λ more ts. Turns changes (Err fault.OutOfMemory) y limits channel first piece read (written ++ more)
        (given ++ ts) now)
    turn-broken g y a = record {
      written = [];
      ticks = a.ticks;
      moved = told-nothing la;
      given = a.given;
      holds = rw (append-nil written) a.holds;
    }
