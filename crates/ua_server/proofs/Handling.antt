-- What becomes of pieces, one turn after the other, and of a line, one read after the other.
use Rattle.std.proofs.Common.{refl, sym, ◌∙◌, ap, inr, length-append, append_assoc, arith, subst, append-nil, take-append-drop}
use Rattle.std.proofs.Math.Seq.{take-length}
use Rattle.std.proofs.lemmas.List.{length-take-le}
use Rattle.std.specs.Prelude.{◌≡◌, List, [], length, false, Option, Some, None, ◌<◌, ℕ, ◌++◌, ◌+◌, ◌≤◌, ℤ, Result, take, Ok, Err, drop, ◌-◌}
use Rattle.ua_builtin.specs.declared.date_time.DateTime.{DateTime}
use Rattle.ua_channel.proofs.Moving.{told-nothing, told-then, rest_of, rest-is, rest-length, joined}
use Rattle.ua_channel.specs.Line.{Traffic, IfTrafficKnown, HandsOut}
use Rattle.ua_channel.specs.Received.{listed}
use Rattle.ua_channel.specs.ServerRules.{server_rules}
use Rattle.ua_channel.specs.ServerStands.{limits_of, channel_of, rules_of, ChannelStands as Holds}
use Rattle.ua_channel.specs.declared.line.LineFault.{LineFault}
use Rattle.ua_channel.specs.declared.server.ServerChannel.{ServerChannel}
use Rattle.ua_frame.proofs.Ends.{ends_stay}
use Rattle.ua_frame.specs.Run.{Going, End, Stopped, Over}
use Rattle.ua_frame.specs.declared.frame.Frame.{Frame}
use Rattle.ua_frame.specs.declared.limits.Limits.{Limits}
use Rattle.ua_server.proofs.Acting.{moments-count}
use Rattle.ua_server.proofs.Exchanges.{gives-then, exchanged-then}
use Rattle.ua_server.proofs.LeftOver.{asked-over, asked-by}
use Rattle.ua_server.proofs.Passing.{fewer}
use Rattle.ua_server.proofs.Turning.{listed-one}
use Rattle.ua_server.specs.Happening.{Event, noted_in, Happens}
use Rattle.ua_server.specs.History.{ConnectionEvent, output_over, told_in, moments_of}
use Rattle.ua_server.specs.Said.{start}
use Rattle.ua_server.specs.Served.{channel_in}
use Rattle.ua_server.specs.Serving.{moments_in, greatest, MovesTraffic, coming_now}
use Rattle.ua_server.specs.ServingOver.{ActsFirst, Acts, AllAnswered, FramesAnswered, ServesApplication, ServesOver, EndedOver, FailedOver}
use Rattle.ua_server.specs.ServingParts.{OwesNothing, Exchanged, FailsTelling, Turns, TurnsTo, EndsTelling, Finishes, Handles, ReadsToEnd}
use Rattle.ua_server.specs.State.{State}
use Rattle.ua_server.specs.declared.serve_fault.ServeFault.{ServeFault}
use Rattle.ua_server.specs.declared.serving.Serving.{Serving}
use Rattle.ua_server.specs.declared.step.End.{End as Ending}
use Rattle.ua_server.specs.declared.watch.AnsweredRequest.{AnsweredRequest}
use Rattle.ua_server.specs.declared.step.End.TheVariants as ending
use Rattle.ua_server.specs.declared.serve_fault.ServeFault.TheVariants as fault

-- the same at other lists
moved-to : (P : List ℕ → List ℕ → List Event → Type 0) (r r' w w' : List ℕ) (t t' : List Event) → r ≡ r' → w ≡ w' → t ≡ t' → P r w t → P r' w' t'
moved-to P r r' w w' t t' a b c p = rw (← a, ← b, ← c) p

-- ---- behind the end of a connection nothing counts

module _ {A : Type 0} (changes : A → State → A → State → Type 0) (limits : Limits) (channel : ℕ) (first : State × A) where
  answered-on : (read more written : List ℕ) (moments : List DateTime) (requested : List AnsweredRequest) (history : List ConnectionEvent) (now : State)
      (end : End ℕ) → (end ≡ Going → ⊥)
      → AllAnswered limits channel first.0 read written moments requested history now end
      → AllAnswered limits channel first.0 (read ++ more) written moments requested history now end
  answered-on read more written moments requested history now end over a = record {
    frames = a.frames;
    rest = a.rest ++ more;
    to = record {
      run = ends_stay (server_rules limits channel) read more a.frames a.rest end over a.to.run;
      told_is = a.to.told_is;
      written_is = a.to.written_is;
      requests_are = a.to.requests_are;
      state_is = a.to.state_is;
      moments_are = a.to.moments_are;
      asked = asked-over limits channel read more a.frames a.rest end (told_in history) moments over a.to.run a.to.asked;
    };
  }

  ended-on : (end : Ending) (read more written : List ℕ) (moments : List DateTime) (requested : List AnsweredRequest) (history : List ConnectionEvent)
      (now : State) → EndedOver end limits channel first.0 read written moments requested history now
      → EndedOver end limits channel first.0 (read ++ more) written moments requested history now
  ended-on ending.Closed read more written moments requested history now a = answered-on read more written moments requested history now Over (λ e. absurd cc) a
  ended-on (ending.Refused code) read more written moments requested history now a = answered-on read more written moments requested history now
      (Stopped code.code) (λ e. absurd cc) a
  ended-on ending.NoClose read more written moments requested history now a = absurd a
  ended-on ending.Cut read more written moments requested history now a = absurd a

  ends-on : (end : Ending) (read more written : List ℕ) (ticks : List Event) (now : State × A)
      → EndsTelling changes end limits channel first read written ticks now → EndsTelling changes end limits channel first (read ++ more) written ticks now
  ends-on end read more written ticks now t =
      record {
        history = t.history;
        acted = t.acted;
        acts_first = t.acts_first;
        ends = ended-on end read more written (moments_in ticks)
            (noted_in ticks) t.history now.0 t.ends;
      }

  -- ---- a piece

  module _ {M : Type 0} (gives : M → Event → M → Type 0) (m0 : M) (la : Option Traffic) (x : Serving) (now0 : State × A) (piece : List ℕ) where
    -- so many octets of the piece are answered, and it goes on
    abbrev pub Handled : ℕ → M → Option Traffic → Serving → State × A → List ℕ → List ℕ → List Event → Type 0
    Handled taken m lb y now read written given =
        Exchanged gives m0 m [] la lb (λ more ts. OwesNothing changes y limits channel first (read ++ take taken piece) (written ++ more) (given ++ ts) now)

    pub handled-nothing : (read written : List ℕ) (given : List Event) → OwesNothing changes x limits channel first read written given now0
        → Handled 0 m0 la x now0 read written given
    handled-nothing read written given k = record {
      written = [];
      ticks = [];
      moved = told-nothing la;
      given = refl;
      holds = moved-to (λ r w t. OwesNothing changes x limits channel first r w t now0) read (read ++ []) written (written ++ []) given (given ++ [])
          (sym (append-nil read)) (sym (append-nil written)) (sym (append-nil given)) k;
    }

    module _ (taken : ℕ) (m m' : M) (lb lc : Option Traffic) (mid y : Serving) (now now' : State × A) (read written : List ℕ) (given : List Event)
        (so_far : Handled taken m lb mid now read written given) where
      -- where a turn begins
      abbrev there : List ℕ
      there = read ++ take taken piece

      pub handled-more : (n : ℕ) (end : Option Ending) → end ≡ None
          → Exchanged gives m m' [] lb lc (λ more ts. Turns changes (Ok (record { size = n; outcome = end })) y limits channel first (rest_of piece taken) there
          ((written ++ so_far.written) ++ more) ((given ++ so_far.ticks) ++ ts) now')
          → Handled (taken + n) m' lc y now' read written given
      handled-more n end is f =
          exchanged-then gives m0 m m' [] [] la lb lc (λ more ts. OwesNothing changes mid limits channel first there (written ++ more) (given ++ ts) now)
          (λ more ts. Turns changes (Ok (record { size = n; outcome = end })) y limits channel first (rest_of piece taken) there
          ((written ++ so_far.written) ++ more) ((given ++ so_far.ticks) ++ ts) now')
          (λ more ts. OwesNothing changes y limits channel first (read ++ take (taken + n) piece) (written ++ more) (given ++ ts) now') so_far f
          (λ w ts h. moved-to (λ r u t. OwesNothing changes y limits channel first r u t now') (there ++ take n (rest_of piece taken))
          (read ++ take (taken + n) piece)
          ((written ++ so_far.written) ++ w) (written ++ (so_far.written ++ w)) ((given ++ so_far.ticks) ++ ts) (given ++ (so_far.ticks ++ ts))
          (joined read piece taken n) (append_assoc written so_far.written w) (append_assoc given so_far.ticks ts)
          (subst (λ (e : Option Ending). TurnsTo changes e y limits channel first (there ++ take n (rest_of piece taken)) ((written ++ so_far.written) ++ w)
          ((given ++ so_far.ticks) ++ ts) now') is h))

      back : (n : ℕ) → (there ++ take n (rest_of piece taken)) ++ drop n (rest_of piece taken) ≡ read ++ piece
      back n =
          append_assoc there (take n (rest_of piece taken)) (drop n (rest_of piece taken))
          ∙ (rw (take-append-drop n (rest_of piece taken) ∙ rest-is piece taken) (append_assoc read (take taken piece) (drop taken piece)
          ∙ rw (take-append-drop taken piece)))

      -- the connection ends within the piece
      pub handled-end : (n : ℕ) (end : Option Ending) (e : Ending) → end ≡ Some e
          → Exchanged gives m m' [] lb lc (λ more ts. Turns changes (Ok (record { size = n; outcome = end })) y limits channel first (rest_of piece taken) there
          ((written ++ so_far.written) ++ more) ((given ++ so_far.ticks) ++ ts) now')
          → Exchanged gives m0 m' [] la lc (λ more ts. Handles changes (Ok (Some e)) y limits channel first (read ++ piece) (written ++ more)
          (given ++ ts) now')
      handled-end n end e is f =
          exchanged-then gives m0 m m' [] [] la lb lc (λ more ts. OwesNothing changes mid limits channel first there (written ++ more) (given ++ ts) now)
          (λ more ts. Turns changes (Ok (record { size = n; outcome = end })) y limits channel first (rest_of piece taken) there
          ((written ++ so_far.written) ++ more) ((given ++ so_far.ticks) ++ ts) now')
          (λ more ts. EndsTelling changes e limits channel first (read ++ piece) (written ++ more) (given ++ ts) now') so_far f
          (λ w ts h. moved-to (λ r u t. EndsTelling changes e limits channel first r u t now')
          ((there ++ take n (rest_of piece taken)) ++ drop n (rest_of piece taken)) (read ++ piece)
          ((written ++ so_far.written) ++ w) (written ++ (so_far.written ++ w)) ((given ++ so_far.ticks) ++ ts) (given ++ (so_far.ticks ++ ts))
          (back n) (append_assoc written so_far.written w) (append_assoc given so_far.ticks ts)
          (ends-on e (there ++ take n (rest_of piece taken)) (drop n (rest_of piece taken)) ((written ++ so_far.written) ++ w) ((given ++ so_far.ticks) ++ ts)
          now'
          (subst (λ (o : Option Ending). TurnsTo changes o y limits channel first (there ++ take n (rest_of piece taken)) ((written ++ so_far.written) ++ w)
          ((given ++ so_far.ticks) ++ ts) now') is h)))

      -- an answer fails
      pub handled-fault : (f : ServeFault)
          → Exchanged gives m m' [] lb lc
          (λ more ts. Turns changes (Err f) y limits channel first (rest_of piece taken) there ((written ++ so_far.written) ++ more)
          ((given ++ so_far.ticks) ++ ts) now')
          → Exchanged gives m0 m' [] la lc (λ more ts. Handles changes (Err f) y limits channel first (read ++ piece) (written ++ more) (given ++ ts) now')
      handled-fault f t =
          exchanged-then gives m0 m m' [] [] la lb lc (λ more ts. OwesNothing changes mid limits channel first there (written ++ more) (given ++ ts) now)
          (λ more ts. Turns changes (Err f) y limits channel first (rest_of piece taken) there ((written ++ so_far.written) ++ more)
          ((given ++ so_far.ticks) ++ ts) now')
          (λ more ts. FailsTelling changes f limits channel first (read ++ piece) (written ++ more) (given ++ ts) now') so_far t
          (λ w ts h. moved-to (λ r u o. FailsTelling changes f limits channel first r u o now') (there ++ rest_of piece taken) (read ++ piece)
          ((written ++ so_far.written) ++ w) (written ++ (so_far.written ++ w)) ((given ++ so_far.ticks) ++ ts) (given ++ (so_far.ticks ++ ts))
          (rw (rest-is piece taken) (append_assoc read (take taken piece) (drop taken piece) ∙ rw (take-append-drop taken piece)))
          (append_assoc written so_far.written w) (append_assoc given so_far.ticks ts) h)

      all-of : taken ≤ length piece → length piece ≤ taken → take taken piece ≡ piece
      all-of h k = let same : taken ≡ length piece = omega (arith, h, k) in rw same (take-length piece)

      -- the whole piece is answered
      pub handled-all : taken ≤ length piece → length piece ≤ taken
          → Exchanged gives m0 m [] la lb (λ more ts. Handles changes (Ok None) mid limits channel first (read ++ piece) (written ++ more) (given ++ ts) now)
      handled-all h k = record {
        written = so_far.written;
        ticks = so_far.ticks;
        moved = so_far.moved;
        given = so_far.given;
        holds = rw (← all-of h k) so_far.holds;
      }

  -- ---- a line

  rules-at : (ch : ServerChannel) → limits_of ch ≡ limits → channel_of ch ≡ channel → rules_of ch ≡ server_rules limits channel
  rules-at ch a b = rw (a, b)

  -- all that was read is answered
  keeps-answered : (x : Serving) (read written : List ℕ) (given : List Event) (now : State × A)
      (k : OwesNothing changes x limits channel first read written given now)
      → FramesAnswered limits channel first.0 read written (moments_in given) (noted_in given) k.history now.0 k.stands.goes.frames k.stands.goes.rest Going
  keeps-answered x read written given now k =
      let g = k.stands.goes in
      let same = rules-at (channel_in x.server) k.limits_is k.channel_is in
      record {
        run = rw (← same) g.stands.run;
        told_is = rw (sym same) g.told_is;
        written_is = sym (append-nil (output_over channel (start first.0 []) k.history) ∙ (k.said_is ∙ append-nil written));
        requests_are = k.requests_are;
        state_is = rw (sym k.channel_is) k.stands.state_is;
        moments_are = (listed x.moment, k.moments_are, listed-one changes limits channel first x.moment);
        asked = rw k.moments_are (asked-by limits channel read (told_in k.history) (moments_of k.history) x.moment (moments-count k.history) k.kept_is);
      }

  still-going : (x : Serving) (read written : List ℕ) (given : List Event) (now : State × A)
      (k : OwesNothing changes x limits channel first read written given now)
      → AllAnswered limits channel first.0 read written (moments_in given) (noted_in given) k.history now.0 Going
  still-going x read written given now k = record { frames = k.stands.goes.frames; rest = k.stands.goes.rest; to = keeps-answered x read written given now k }

  -- what serving comes to over some events
  pub record ComesTo (result : Result Ending ServeFault) (read written : List ℕ) (ticks : List Event) (now : State × A) (coming : List ℕ) : Type 0 where
    pub history : List ConnectionEvent
    pub acted : Acts changes channel (start first.0 []) first.1 history now.1
    pub acts_first : ActsFirst false history
    pub over : ServesOver result limits channel first.0 read written (moments_in ticks) (noted_in ticks) history now.0 coming

  -- the input ended
  pub finished : (x : Serving) (end : Ending) (read written : List ℕ) (given : List Event) (now : State × A) (coming : List ℕ)
      → OwesNothing changes x limits channel first read written given now
      → ((octets : List ℕ) (frames : List Frame) (rest : List ℕ) → Holds (channel_in x.server) octets frames rest → Finishes end frames rest) → coming ≡ []
      → ComesTo (Ok end) read written given now coming
  finished x end read written given now coming k by none =
      record {
        history = k.history;
        acted = k.acted;
        acts_first = k.acts_first;
        over = by-end end (by read k.stands.goes.frames k.stands.goes.rest k.stands.goes.stands);
      }
    where
      by-end : (e : Ending) → Finishes e k.stands.goes.frames k.stands.goes.rest
          → ServesOver (Ok e) limits channel first.0 read written (moments_in given) (noted_in given) k.history now.0 coming
      by-end ending.NoClose h = record {
        frames = k.stands.goes.frames;
        rest = k.stands.goes.rest;
        to = keeps-answered x read written given now k;
        none = none;
        stands = h;
      }
      by-end ending.Cut h = record {
        frames = k.stands.goes.frames;
        rest = k.stands.goes.rest;
        to = keeps-answered x read written given now k;
        none = none;
        stands = h;
      }
      by-end ending.Closed h = absurd h
      by-end (ending.Refused code) h = absurd h

  ended-serves : (end : Ending) (read written : List ℕ) (moments : List DateTime) (requested : List AnsweredRequest) (history : List ConnectionEvent)
      (now : State) (coming : List ℕ) → EndedOver end limits channel first.0 read written moments requested history now
      → ServesOver (Ok end) limits channel first.0 read written moments requested history now coming
  ended-serves ending.Closed read written moments requested history now coming a = a
  ended-serves (ending.Refused code) read written moments requested history now coming a = a
  ended-serves ending.NoClose read written moments requested history now coming a = absurd a
  ended-serves ending.Cut read written moments requested history now coming a = absurd a

  ends-serves : (end : Ending) (read written : List ℕ) (ticks : List Event) (now : State × A) (coming : List ℕ)
      → EndsTelling changes end limits channel first read written ticks now → ComesTo (Ok end) read written ticks now coming
  ends-serves end read written ticks now coming a =
      record {
        history = a.history;
        acted = a.acted;
        acts_first = a.acts_first;
        over = ended-serves end read written (moments_in ticks)
            (noted_in ticks) a.history now.0 coming a.ends;
      }

  failed-serves : (f : ServeFault) (read written : List ℕ) (moments : List DateTime) (requested : List AnsweredRequest) (history : List ConnectionEvent)
      (now : State) (coming : List ℕ) → FailedOver f limits channel first.0 read written moments requested history now
      → ServesOver (Err f) limits channel first.0 read written moments requested history now coming
  failed-serves fault.Read read written moments requested history now coming a = absurd a
  failed-serves (fault.Write n) read written moments requested history now coming a = a
  failed-serves fault.OutOfMemory read written moments requested history now coming a = a
  failed-serves fault.TooLong read written moments requested history now coming a = absurd a

  fails-serves : (f : ServeFault) (read written : List ℕ) (ticks : List Event) (now : State × A) (coming : List ℕ)
      → FailsTelling changes f limits channel first read written ticks now → ComesTo (Err f) read written ticks now coming
  fails-serves f read written ticks now coming a =
      record {
        history = a.history;
        acted = a.acted;
        acts_first = a.acts_first;
        over = failed-serves f read written (moments_in ticks)
            (noted_in ticks) a.history now.0 coming a.fails;
      }

  module _ {M W : Type 0} (gives : M → ℤ → M → Type 0) (notes : W → AnsweredRequest → W → Type 0) (m0 : M × W) where
    -- one step of both
    abbrev step : M × W → Event → M × W → Type 0
    step = Happens gives notes

    -- what is exchanged with a line is served
    pub served : (m : M × W) (read : List ℕ) (la lb : Option Traffic) (result : Result Ending ServeFault) (now : State × A) (P : List ℕ → List Event → Type 0)
        → Exchanged step m0 m read la lb P
        → ((w : List ℕ) (ts : List Event) → P w ts → ComesTo result read w ts now (coming_now lb))
        → ServesApplication limits channel gives notes changes first m0 result now m la lb
    served m read la lb result now P e by =
        let to = by e.written e.ticks e.holds in
        record {
          read = read;
          written = e.written;
          happened = e.ticks;
          history = to.history;
          moved = e.moved;
          led = e.given;
          acted = to.acted;
          acts_first = to.acts_first;
          comes_to = to.over;
        }

    handed : (n : ℕ) (buffer : List ℕ) (a b : Option Traffic) → IfTrafficKnown (HandsOut (Ok n) buffer) a b
        → IfTrafficKnown (MovesTraffic (take n buffer) []) a b
    handed n buffer (Some a) (Some b) h = (h.0, h.1 ∙ sym (append-nil a.written))
    handed n buffer (Some a) None h = h
    handed n buffer None b h = h

    not-handed : (f : LineFault) (buffer : List ℕ) (a b : Option Traffic) → IfTrafficKnown (HandsOut (Err f) buffer) a b
        → IfTrafficKnown (MovesTraffic [] []) a b
    not-handed f buffer (Some a) (Some b) h = (
      λ rest. ap (λ (t : Traffic). t.coming rest) (sym h),
      rw h (sym (append-nil a.written)),
    )
    not-handed f buffer (Some a) None h = h
    not-handed f buffer None b h = h

    ended : (n : ℕ) (buffer : List ℕ) (a b : Option Traffic) → IfTrafficKnown (HandsOut (Ok n) buffer) a b → n ≡ 0 → 0 < length buffer → coming_now b ≡ []
    ended n buffer (Some a) (Some b) h zero room = sym (rw zero) ∙ (sym (h.0 []) ∙ h.2 zero room)
    ended n buffer (Some a) None h zero room = refl
    ended n buffer None b h zero room = ap coming_now h

    -- so many reads are answered, and it goes on
    abbrev pub Served : Option Traffic → ℕ → M × W → Option Traffic → Serving → State × A → Type 0
    Served la reads m lb x now = ReadsToEnd step m0 m la lb reads (λ read written ts. OwesNothing changes x limits channel first read written ts now)

    pub served-nothing : (la : Option Traffic) (x : Serving) (now : State × A) → OwesNothing changes x limits channel first [] [] [] now
        → Served la 0 m0 la x now
    served-nothing la x now k =
        record { read = []; enough = omega arith; exchanged = record { written = []; ticks = []; moved = told-nothing la; given = refl; holds = k } }

    -- nothing was read, for want of memory
    pub serves-nothing : (la : Option Traffic) (x : Serving) (now : State × A) → OwesNothing changes x limits channel first [] [] [] now
        → ServesApplication limits channel gives notes changes first m0 (Err fault.OutOfMemory) now m0 la la
    serves-nothing la x now k =
        served m0 [] la la (Err fault.OutOfMemory) now (λ w ts. OwesNothing changes x limits channel first [] w ts now)
        (record { written = []; ticks = []; moved = told-nothing la; given = refl; holds = k })
        (λ w ts h. record {
          history = h.history;
          acted = h.acted;
          acts_first = h.acts_first;
          over = (
            record {
              unwritten = [];
              last = h.last;
              state_is = rw (sym h.channel_is) h.stands.state_is;
              moments_are = (listed x.moment, h.moments_are, listed-one changes limits channel first x.moment);
            },
            inr (refl, h.requests_are),
          );
        })

    -- a read is handed out
    read-on : (la lb lc : Option Traffic) (reads : ℕ) (m : M × W) (x : Serving) (now : State × A) (n : ℕ) (buffer : List ℕ) (s : Served la reads m lb x now)
        → IfTrafficKnown (MovesTraffic (take n buffer) []) lb lc
        → Exchanged step m0 m (s.read ++ take n buffer) la lc (λ written ts. OwesNothing changes x limits channel first s.read written ts now)
    read-on la lb lc reads m x now n buffer s moved = record {
      written = s.exchanged.written;
      ticks = s.exchanged.ticks;
      moved = rw (← append-nil s.exchanged.written) (told-then s.read s.exchanged.written (take n buffer) [] la lb lc s.exchanged.moved moved);
      given = s.exchanged.given;
      holds = s.exchanged.holds;
    }

    pub read-failed : (la lb lc : Option Traffic) (reads : ℕ) (m : M × W) (x : Serving) (now : State × A) (f : LineFault) (buffer : List ℕ)
        → Served la reads m lb x now → IfTrafficKnown (HandsOut (Err f) buffer) lb lc
        → ServesApplication limits channel gives notes changes first m0 (Err fault.Read) now m la lc
    read-failed la lb lc reads m x now f buffer s h =
        served m s.read la lc (Err fault.Read) now (λ written ts. OwesNothing changes x limits channel first s.read written ts now)
        (subst (λ (r : List ℕ). Exchanged step m0 m r la lc (λ written ts. OwesNothing changes x limits channel first s.read written ts now))
        (append-nil s.read)
        (read-on la lb lc reads m x now 0 [] s (not-handed f buffer lb lc h)))
        (λ w ts k. record { history = k.history; acted = k.acted; acts_first = k.acts_first; over = still-going x s.read w ts now k })

    pub read-ended : (la lb lc : Option Traffic) (reads : ℕ) (m : M × W) (x : Serving) (now : State × A) (n : ℕ) (buffer : List ℕ) (end : Ending)
        → Served la reads m lb x now → IfTrafficKnown (HandsOut (Ok n) buffer) lb lc → n ≡ 0 → 0 < length buffer
        → ((octets : List ℕ) (frames : List Frame) (rest : List ℕ) → Holds (channel_in x.server) octets frames rest → Finishes end frames rest)
        → ServesApplication limits channel gives notes changes first m0 (Ok end) now m la lc
    read-ended la lb lc reads m x now n buffer end s h zero room by =
        served m s.read la lc (Ok end) now (λ written ts. OwesNothing changes x limits channel first s.read written ts now)
        (subst (λ (r : List ℕ). Exchanged step m0 m r la lc (λ written ts. OwesNothing changes x limits channel first s.read written ts now))
        (ap (λ (k : ℕ). s.read ++ take k buffer) zero ∙ append-nil s.read)
        (read-on la lb lc reads m x now n buffer s (handed n buffer lb lc h)))
        (λ w ts k. finished x end s.read w ts now (coming_now lc) k by (ended n buffer lb lc h zero room))

    pub read-too-long : (la lb : Option Traffic) (reads : ℕ) (m : M × W) (x : Serving) (now : State × A) → greatest ≤ reads → Served la reads m lb x now
        → ServesApplication limits channel gives notes changes first m0 (Err fault.TooLong) now m la lb
    read-too-long la lb reads m x now h s =
        served m s.read la lb (Err fault.TooLong) now (λ written ts. OwesNothing changes x limits channel first s.read written ts now) s.exchanged
        (λ w ts k.
        record {
          history = k.history;
          acted = k.acted;
          acts_first = k.acts_first;
          over = (still-going x s.read w ts now k, more-than greatest reads (length s.read) h s.enough);
        })
      where
        more-than : (a b c : ℕ) → a ≤ b → b ≤ c → a ≤ c
        more-than a b c p q = omega (arith, p, q)

    module _ (la lb lc ld : Option Traffic) (reads : ℕ) (m m' : M × W) (x y : Serving) (now now' : State × A) (n : ℕ) (buffer : List ℕ)
        (s : Served la reads m lb x now) (h : IfTrafficKnown (HandsOut (Ok n) buffer) lb lc) where
      -- the octets that were read are handled so
      handles-on : (result : Result (Option Ending) ServeFault)
          → Exchanged step m m' [] lc ld (λ more ts. Handles changes result y limits channel first (s.read ++ take n buffer) (s.exchanged.written ++ more)
          (s.exchanged.ticks ++ ts) now')
          → Exchanged step m0 m' (s.read ++ take n buffer) la ld
          (λ written ts. Handles changes result y limits channel first (s.read ++ take n buffer) written ts now')
      handles-on result f =
          record {
            written = s.exchanged.written ++ f.written;
            ticks = s.exchanged.ticks ++ f.ticks;
            moved = rw (← append-nil (s.read ++ take n buffer), ← append-nil s.exchanged.written)
                (told-then (s.read ++ take n buffer) (s.exchanged.written ++ []) [] f.written la lc ld
                (told-then s.read s.exchanged.written (take n buffer) [] la lb lc s.exchanged.moved (handed n buffer lb lc h)) f.moved);
            given = gives-then step m0 m m' s.exchanged.ticks f.ticks s.exchanged.given f.given;
            holds = f.holds;
          }

      one-more : (a b r k : ℕ) → r ≤ a → b ≡ a + k → 0 < k → r + 1 ≤ b
      one-more a b r k p q z = omega (arith, p, q, z)

      pub served-more : 0 < n → n ≤ length buffer
          → Exchanged step m m' [] lc ld (λ more ts. Handles changes (Ok None) y limits channel first (s.read ++ take n buffer) (s.exchanged.written ++ more)
          (s.exchanged.ticks ++ ts) now')
          → Served la (reads + 1) m' ld y now'
      served-more some within f = record {
        read = s.read ++ take n buffer;
        enough = one-more (length s.read) (length (s.read ++ take n buffer)) reads n s.enough (length-append s.read (take n buffer)
            ∙ rw (length-take-le n buffer within)) some;
        exchanged = handles-on (Ok None) f;
      }

      pub served-end : (end : Ending)
          → Exchanged step m m' [] lc ld (λ more ts. Handles changes (Ok (Some end)) y limits channel first (s.read ++ take n buffer)
          (s.exchanged.written ++ more) (s.exchanged.ticks ++ ts) now')
          → ServesApplication limits channel gives notes changes first m0 (Ok end) now' m' la ld
      served-end end f =
          served m' (s.read ++ take n buffer) la ld (Ok end) now'
          (λ written ts. EndsTelling changes end limits channel first (s.read ++ take n buffer) written ts now') (handles-on (Ok (Some end)) f)
          (λ w ts k. ends-serves end (s.read ++ take n buffer) w ts now' (coming_now ld) k)

      pub served-fault : (f : ServeFault)
          → Exchanged step m m' [] lc ld (λ more ts. Handles changes (Err f) y limits channel first (s.read ++ take n buffer) (s.exchanged.written ++ more)
          (s.exchanged.ticks ++ ts) now')
          → ServesApplication limits channel gives notes changes first m0 (Err f) now' m' la ld
      served-fault f e =
          served m' (s.read ++ take n buffer) la ld (Err f) now'
          (λ written ts. FailsTelling changes f limits channel first (s.read ++ take n buffer) written ts now') (handles-on (Err f) e)
          (λ w ts k. fails-serves f (s.read ++ take n buffer) w ts now' (coming_now ld) k)

-- less of a piece is left behind a turn
pub turns-fewer : (piece : List ℕ) (taken n : ℕ) → taken < length piece → n ≤ length (rest_of piece taken) → (0 < length (rest_of piece taken) → 0 < n)
    → length piece - (taken + n) < length piece - taken
turns-fewer piece taken n h k some = fewer (length piece) taken n (length (rest_of piece taken)) h (rest-length piece taken) k some
