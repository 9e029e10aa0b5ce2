-- What a step makes of a connection that is served.
use Rattle.std.proofs.Common.{refl, sym, ◌∙◌, ap, inl, inr, append_assoc, arith, subst, append-nil, take-append-drop}
use Rattle.std.proofs.lemmas.List.{length-take-le}
use Rattle.std.specs.Prelude.{◌≡◌, List, [], ◌∷◌, length, Bool, true, false, cond, IsTrue, Option, Some, None, ◌<◌, ℕ, ◌++◌, ◌≤◌, take, Err, drop}
use Rattle.ua_builtin.specs.declared.date_time.DateTime.{DateTime}
use Rattle.ua_channel.specs.Agreement.{Agreement}
use Rattle.ua_channel.specs.Received.{listed, has_some}
use Rattle.ua_channel.specs.ServerPlaces.{agreed_by}
use Rattle.ua_channel.specs.ServerRules.{server_rules}
use Rattle.ua_channel.specs.ServerStands.{limits_of, channel_of, next_of, rules_of}
use Rattle.ua_channel.specs.ServerTold.{Told, Asked, Agreed, Opened, GaveUp, Closed}
use Rattle.ua_channel.specs.Stops.{StopsAt}
use Rattle.ua_channel.specs.declared.server.ServerChannel.{ServerChannel}
use Rattle.ua_channel_laws.proofs.AgreedFirst.{agrees_first, agrees_once}
use Rattle.ua_frame.specs.Run.{Rules, Run, Going, events, End, Stopped, Over}
use Rattle.ua_frame.specs.declared.frame.Frame.{Frame}
use Rattle.ua_frame.specs.declared.limits.Limits.{Limits}
use Rattle.ua_server.proofs.Acting.{moments-count, heard-append, quiet-silent, acting-on, moments-heard, requests-behind, one-request, acts-heard}
use Rattle.ua_server.proofs.Happened.{moments-append, noted-append}
use Rattle.ua_server.proofs.Histories.{course-behind, output-behind, told-behind, goes-stands, goes-output}
use Rattle.ua_server.proofs.Lasting.{last-on, last-read}
use Rattle.ua_server.proofs.LeftOver.{no-words, answer-kept, asked-by, over-left, quiet-left}
use Rattle.ua_server.proofs.SaidInParts.{left-append}
use Rattle.ua_server.proofs.Steps.{agreed-quiet, course, used-quiet, left-agreement}
use Rattle.ua_server.specs.Happening.{Event, noted_in}
use Rattle.ua_server.specs.History.{ConnectionEvent, StandsOver, course_over, heard_at, output_over, told_in, moments_of}
use Rattle.ua_server.specs.Now.{AdvanceNowBy, NowBy, StepNow, standing}
use Rattle.ua_server.specs.Requests.{requests_of}
use Rattle.ua_server.specs.Said.{say, start, Course, last_words, state_after, used_in, is_answered}
use Rattle.ua_server.specs.Served.{channel_in}
use Rattle.ua_server.specs.Serving.{moments_in, AreAsked, IsUsedUp, Answer, Refusal}
use Rattle.ua_server.specs.ServingOver.{ActsFirst, IsSilent, LastSaid, has_acted, Acts, requests_over}
use Rattle.ua_server.specs.ServingParts.{OwesNothing, AdvancesTo, FailsTelling, Owes, IsTimeKept, EndsOwing, is_there, noted}
use Rattle.ua_server.specs.State.{State}
use Rattle.ua_server.specs.Stepping.{given_up, times_of_answers, StepStops}
use Rattle.ua_server.specs.declared.server.Server.{Server}
use Rattle.ua_server.specs.declared.serving.Serving.{Serving}
use Rattle.ua_server.specs.declared.step.End.{End as Ending}
use Rattle.ua_server.specs.declared.step.StepFault.{StepFault}
use Rattle.ua_server.specs.declared.watch.AnsweredRequest.{AnsweredRequest}
use Rattle.ua_server.specs.declared.step.End.TheVariants as ending
use Rattle.ua_server.specs.declared.serve_fault.ServeFault.TheVariants as serve_fault
use Rattle.ua_server.specs.declared.step.StepFault.TheVariants as step_fault

-- ---- which answer uses a moment

not-there : (a : Option Agreement) → is_there a ≡ false → a ≡ None
not-there None e = refl
not-there (Some a) e = absurd cc

there-is : (a : Option Agreement) → is_there a ≡ true → (b : Agreement) × (a ≡ Some b)
there-is None e = absurd cc
there-is (Some a) e = (a, refl)

-- the moment that is kept behind an answer
kept-by : (greeted : Bool) (t : Told) (m : DateTime) → IsTrue (is_answered t) → (greeted ≡ false → (a : Agreement) × (t ≡ Agreed a))
    → (greeted ≡ true → (a : Agreement) → t ≡ Agreed a → ⊥)
    → times_of_answers (t ∷ []) m ++ listed (cond greeted None (Some m)) ≡ m ∷ []
kept-by false (Agreed a) m h first later = refl
kept-by true (Agreed a) m h first later = absurd (later refl a refl)
kept-by false (Opened id handle token lifetime) m h first later = let e = (first refl).1 in absurd cc
kept-by true (Opened id handle token lifetime) m h first later = refl
kept-by false (Asked id token octets) m h first later = let e = (first refl).1 in absurd cc
kept-by true (Asked id token octets) m h first later = refl
kept-by greeted (GaveUp id) m h first later = absurd cc
kept-by greeted Closed m h first later = absurd cc

-- behind an answer there is an agreement
agreed-behind : (channel : ℕ) (d : Course) (t : Told) (greeted : Bool) → (greeted ≡ false → (a : Agreement) × (t ≡ Agreed a)) → greeted ≡ is_there d.agreement
    → is_there (say channel d t).1.agreement ≡ true
agreed-behind channel d (Agreed a) greeted first e = refl
agreed-behind channel d (Opened id handle token lifetime) true first e = sym e
agreed-behind channel d (Opened id handle token lifetime) false first e = let f = (first refl).1 in absurd cc
agreed-behind channel d (Asked id token octets) true first e = sym e
agreed-behind channel d (Asked id token octets) false first e = let f = (first refl).1 in absurd cc
agreed-behind channel d (GaveUp id) true first e = sym e
agreed-behind channel d (GaveUp id) false first e = let f = (first refl).1 in absurd cc
agreed-behind channel d Closed true first e = sym e
agreed-behind channel d Closed false first e = let f = (first refl).1 in absurd cc

-- ---- a step

same-rules : (x y : ServerChannel) → limits_of y ≡ limits_of x → channel_of y ≡ channel_of x → rules_of y ≡ rules_of x
same-rules x y limits channel = rw (limits, channel)

module _ {A : Type 0} (changes : A → State → A → State → Type 0) (x : Serving) (server : Server) (m : DateTime) (piece read written : List ℕ)
    (given ts : List Event) (first : State × A) (now0 now1 : State) (app : A) (some : 0 < length piece)
    (lim : limits_of (channel_in server) ≡ limits_of (channel_in x.server)) (chan : channel_of (channel_in server) ≡ channel_of (channel_in x.server))
    (asked : listed x.moment ++ moments_in ts ≡ m ∷ [])
    (o : OwesNothing changes x (limits_of (channel_in x.server)) (channel_of (channel_in x.server)) first read written given (now0, app))
    (acted : has_acted false o.history ≡ true) where
  abbrev l : Limits
  l = limits_of (channel_in x.server)

  abbrev c : ℕ
  c = channel_of (channel_in x.server)

  abbrev ch : ServerChannel
  ch = channel_in server

  abbrev hs : List ConnectionEvent
  hs = o.history

  abbrev s0 : Course
  s0 = start first.0 []

  abbrev y : Serving
  y = record x { server = server; moment = Some m }

  moments-are : moments_in (given ++ ts) ≡ moments_of hs ++ m ∷ []
  moments-are = moments-append given ts
      ∙ (rw o.moments_are (append_assoc (moments_of hs) (listed x.moment) (moments_in ts) ∙ rw asked))

  one-kept : length (m ∷ []) ≤ 1
  one-kept = omega arith

  rules-here : rules_of ch ≡ server_rules l c
  rules-here = same-rules (channel_in x.server) ch lim chan

  run-here : (octets : List ℕ) (frames : List Frame) (rest : List ℕ) (end : End ℕ) → Run (rules_of ch) octets frames rest end
      → Run (server_rules l c) octets frames rest end
  run-here octets frames rest end run = rw (← rules-here) run

  stops-here : (frames : List Frame) (rest : List ℕ) (code : ℕ) → StopsAt (rules_of ch) frames rest code → StopsAt (server_rules l c) frames rest code
  stops-here frames rest code stops = rw (← rules-here) stops

  events-here : (frames : List Frame) (told : List Told) → events (rules_of ch) frames ≡ told → events (server_rules l c) frames ≡ told
  events-here frames told e = rw (sym rules-here) e

  enough-taken : (n : ℕ) → n ≡ length piece → n ≤ length piece
  enough-taken n all = omega (arith, all)

  taken : (n : ℕ) → n ≡ length piece → 0 < length (take n piece)
  taken n all = let k = length-take-le n piece (enough-taken n all) in omega (arith, k, all, some)

  -- the events with those that a step adds: messages that were given up, and then more
  abbrev behind : List ℕ → List Told → List ConnectionEvent
  behind q more = hs ++ heard_at m (given_up q ++ more)

  told-here : (q : List ℕ) (more : List Told) → (told_in hs ++ given_up q) ++ more ≡ told_in (behind q more)
  told-here q more = told-behind hs m q more

  whole-history : (q : List ℕ) (t : Told) → behind q (t ∷ []) ≡ behind q [] ++ (heard_at m (t ∷ []) ++ [])
  whole-history q t =
      rw (heard-append m (given_up q) (t ∷ [])
      ∙ ap (λ (d : List Told). heard_at m d ++ heard_at m (t ∷ [])) (sym (append-nil (given_up q))))
      (sym (append_assoc hs (heard_at m (given_up q ++ [])) (heard_at m (t ∷ []))))

  quiet-here : (q : List ℕ) → told_in (behind q []) ≡ told_in hs ++ given_up q
  quiet-here q = sym (told-here q []) ∙ append-nil (told_in hs ++ given_up q)

  acted-here : (q : List ℕ) (more : List Told) → Acts changes c s0 first.1 (behind q more) app
  acted-here q more = acts-heard changes c s0 first.1 app hs m (given_up q ++ more) o.acted

  acts-here : (q : List ℕ) (more : List Told) → ActsFirst true (heard_at m more) → ActsFirst false (behind q more)
  acts-here q more h = acting-on hs m q more acted o.acts_first h

  -- what is said over them, and the requests
  said-here : (q : List ℕ) (more : List Told) (out : List ℕ) → output_over c s0 (behind q more) ≡ output_over c s0 hs ++ out
      → output_over c s0 (behind q more) ≡ written ++ out
  said-here q more out e = e ∙ rw (o.said_is ∙ append-nil written)

  said-quiet : (q : List ℕ) → output_over c s0 (behind q []) ≡ written
  said-quiet q = output-behind (channel_in x.server) read hs first.0 now0 m q [] o.stands
      ∙ (append-nil (output_over c s0 hs) ∙ (o.said_is ∙ append-nil written))

  said-before : (q : List ℕ) → written ≡ output_over c s0 (behind q []) ++ []
  said-before q = sym (append-nil (output_over c s0 (behind q [])) ∙ said-quiet q)

  state-quiet : (q : List ℕ) → (course_over c s0 (behind q [])).state ≡ now0
  state-quiet q = rw (course-behind (channel_in x.server) read hs first.0 now0 m q [] o.stands)

  requests-here : (q : List ℕ) (more : List Told) (rs : List AnsweredRequest) → noted_in ts ≡ rs
      → requests_over c (course now0 (next_of (channel_in x.server)) [] (agreed_by (told_in hs))) (heard_at m more) ≡ rs
      → noted_in (given ++ ts) ≡ requests_over c s0 (behind q more)
  requests-here q more rs is e =
      noted-append given ts ∙ (rw (o.requests_are, is ∙ sym e) (sym (requests-behind (channel_in x.server) read hs first.0 now0 m q more o.stands)))

  noted-told : noted_in ts ≡ [] → noted_in (given ++ ts) ≡ requests_over c s0 hs
  noted-told none = noted-append given ts ∙ (rw none (append-nil (noted_in given) ∙ o.requests_are))

  -- the moments of what a step adds
  moments-here : (q : List ℕ) (more : List Told) (kept : List DateTime) → moments_of (heard_at m more) ++ kept ≡ m ∷ []
      → moments_in (given ++ ts) ≡ moments_of (behind q more) ++ kept
  moments-here q more kept e =
      moments-are ∙ (rw (sym e) (sym (append_assoc (moments_of hs) (moments_of (heard_at m more)) kept) ∙ rw (sym (moments-heard hs m q more))))

  -- they are asked for so
  asked-here : (octets : List ℕ) (q : List ℕ) (more : List Told) (kept : Option DateTime) → moments_in (given ++ ts) ≡ moments_of (behind q more) ++ listed kept
      → IsTimeKept l c octets kept
      → AreAsked l c octets (told_in (behind q more)) (moments_in (given ++ ts))
  asked-here octets q more kept are k =
      rw are (asked-by l c octets (told_in (behind q more)) (moments_of (behind q more)) kept (moments-count (behind q more)) k)

  used-before : (q : List ℕ) → used_in (told_in (behind q [])) ≡ used_in (told_in hs)
  used-before q = ap used_in (quiet-here q) ∙ used-quiet (told_in hs) q

  -- a moment is left over behind a piece of which nothing is answered
  silent-left : (n : ℕ) (q : List ℕ) → n ≡ length piece → (frames : List Frame) (rest : List ℕ)
      → Run (server_rules l c) (read ++ take n piece) frames rest Going
      → events (server_rules l c) frames ≡ told_in (behind q []) → IsUsedUp l c (read ++ take n piece) → ⊥
  silent-left n q all frames rest run told_is =
      let g = o.stands.goes in
      quiet-left l c read (take n piece) g.frames frames g.rest rest (taken n all) g.stands.run run
      (ap used_in told_is ∙ (used-before q ∙ ap used_in (sym g.told_is)))

  -- and behind what is refused
  refused-left : (n code : ℕ) (frames : List Frame) (rest : List ℕ) → Run (rules_of ch) (read ++ take n piece) frames rest (Stopped code)
      → IsUsedUp l c (read ++ take n piece) → ⊥
  refused-left n code frames rest run = over-left l c (read ++ take n piece) frames rest (Stopped code) (λ e. absurd cc)
      (run-here (read ++ take n piece) frames rest (Stopped code) run)

  -- what was not written is what it was
  last-silent : (n : ℕ) (out q : List ℕ) (more : List Told) → out ≡ [] → IsSilent (heard_at m more)
      → LastSaid l c first.0 (read ++ take n piece) out written (behind q more)
  last-silent n out q more none quiet =
      rw none (last-on l c first.0 read (take n piece) [] written hs (heard_at m (given_up q ++ more)) (quiet-silent m q more quiet) o.last)

  -- nothing is answered
  on-silent : (n : ℕ) (out q : List ℕ) (more : List Told) → noted_in ts ≡ [] → false ≡ has_some more
      → StepStops ch read piece n out (told_in hs ++ given_up q) more
      → StandsOver ch (read ++ take n piece) (behind q more) first.0 now1 → output_over c s0 (behind q more) ≡ output_over c s0 hs ++ out
      → Owes changes y l c first (read ++ take n piece) out written (given ++ ts) (now1, app)
  on-silent n out q [] no_request none stops stands said = record {
    limits_is = lim;
    channel_is = chan;
    history = behind q [];
    acted = acted-here q [];
    acts_first = acts-here q [] tt;
    moments_are = moments-here q [] (m ∷ []) refl;
    stands = stands;
    kept_is = silent-left n q stops.0 stands.goes.frames stands.goes.rest
        (run-here (read ++ take n piece) stands.goes.frames stands.goes.rest Going stands.goes.stands.run)
        (events-here stands.goes.frames _ stands.goes.told_is);
    greeted_is = o.greeted_is ∙ ap is_there (sym (ap agreed_by (quiet-here q) ∙ agreed-quiet c first.0 (told_in hs) q []));
    count_is = o.count_is;
    said_is = said-here q [] out said;
    requests_are = requests-here q [] [] no_request refl;
    last = last-silent n out q [] stops.1 tt;
    asked = λ words. absurd (no-words out stops.1 words);
  }
  on-silent n out q (t ∷ more) no_request none stops stands said = absurd cc

  -- something is answered
  on-saying : (request : Option AnsweredRequest) (n : ℕ) (out q : List ℕ) (more : List Told) → noted_in ts ≡ listed request → true ≡ has_some more
      → StepStops ch read piece n out (told_in hs ++ given_up q) more
      → StandsOver ch (read ++ take n piece) (behind q more) first.0 now1 → output_over c s0 (behind q more) ≡ output_over c s0 hs ++ out
      → listed request ≡ requests_of c (standing now0 (next_of (channel_in x.server)) (agreed_by (told_in hs)) more m) more
      → Owes changes (noted y) l c first (read ++ take n piece) out written (given ++ ts) (now1, app)
  on-saying request n out q [] telling there stops stands said asks = absurd cc
  on-saying request n out q (t ∷ (u ∷ more)) telling there stops stands said asks = absurd stops
  on-saying request n out q (t ∷ []) telling there stops stands said asks =
      let g = stops.3 in
      let before = agreed-quiet c first.0 (told_in hs) q [] in
      let greets : (x.greeted ≡ false → (a : Agreement) × (t ≡ Agreed a)) =
      λ e. agrees_first ch (read ++ take n piece) (told_in hs ++ given_up q) t g (before ∙ not-there (agreed_by (told_in hs)) (sym o.greeted_is ∙ e)) in
      let greeted : (x.greeted ≡ true → (a : Agreement) → t ≡ Agreed a → ⊥) =
      λ e a is. let b = there-is (agreed_by (told_in hs)) (sym o.greeted_is ∙ e) in agrees_once ch (read ++ take n piece) (told_in hs ++ given_up q) t g b.0 a
      (before ∙ b.1) is in
      let kept = kept-by x.greeted t m stops.2 greets greeted in
      let run = run-here (read ++ take n piece) (g.frames ++ g.frame ∷ []) [] Going g.stands.run in
      let tells = ap (λ (R : Rules Told ℕ). R.tells g.frames g.frame) (sym rules-here) ∙ g.tells in
      let kept_here = answer-kept l c x.greeted t m (read ++ take n piece) g.frames g.frame stops.2 greets greeted run tells in
      let moments_now = moments-here q (t ∷ []) (listed (cond x.greeted None (Some m)))
      (ap (λ (a : List DateTime). a ++ listed (cond x.greeted None (Some m))) (append-nil (times_of_answers (t ∷ []) m)) ∙ kept) in
      let agreed : is_there (agreed_by ((told_in hs ++ given_up q) ++ t ∷ [])) ≡ true =
      ap is_there (sym (left-agreement c first.0 ((told_in hs ++ given_up q) ++ t ∷ []) [])
      ∙ ap (λ (d : Course). d.agreement) (left-append c first.0 (told_in hs ++ given_up q) (t ∷ []) []))
      ∙ agreed-behind c (state_after c first.0 (told_in hs ++ given_up q) []) t x.greeted greets
      (o.greeted_is ∙ ap is_there (sym (left-agreement c first.0 (told_in hs ++ given_up q) [] ∙ before))) in
      let whole : behind q (t ∷ []) ≡ behind q [] ++ (heard_at m (t ∷ []) ++ []) = whole-history q t in
      let words : output_over c s0 (behind q (t ∷ [])) ≡ written ++ out = said-here q (t ∷ []) out said in
      record {
        limits_is = lim;
        channel_is = chan;
        history = behind q (t ∷ []);
        acted = acted-here q (t ∷ []);
        acts_first = acts-here q (t ∷ []) (λ e. refl, tt);
        moments_are = moments_now;
        stands = stands;
        kept_is = kept_here;
        greeted_is = sym (ap (λ (d : List Told). is_there (agreed_by d)) (sym (told-here q (t ∷ []))) ∙ agreed);
        count_is = o.count_is;
        said_is = words;
        requests_are = requests-here q (t ∷ []) (listed request) telling
            (one-request c now0 (next_of (channel_in x.server)) (agreed_by (told_in hs)) m ch read piece n out (told_in hs ++ given_up q) (t ∷ []) stops
            ∙ sym asks);
        last = record {
          front = read ++ take n piece;
          behind = [];
          front_is = sym (append-nil (read ++ take n piece));
          before = behind q [];
          word = Answer t;
          moment = m;
          later = [];
          history_is = whole;
          silent = tt;
          ends = record {
            frames = g.frames;
            frame = g.frame;
            run = run;
            told_is = events-here g.frames (told_in hs ++ given_up q) g.told_is ∙ sym (quiet-here q);
            tells = tells;
            answered = stops.2;
          };
          part = [];
          written_is = said-before q;
          said_is = append-nil (output_over c s0 (behind q [] ++ heard_at m (t ∷ [])))
              ∙ (ap (λ (h : List ConnectionEvent). output_over c s0 h) (sym whole) ∙ words);
        };
        asked = λ some_words. subst (λ (d : List Told). AreAsked l c (read ++ take n piece) d (moments_in (given ++ ts))) (sym (told-here q (t ∷ []))
            ∙ ap (λ (d : List Told). d ++ t ∷ []) (sym (quiet-here q)))
            (asked-here (read ++ take n piece) q (t ∷ []) (cond x.greeted None (Some m)) moments_now kept_here);
      }

  -- the connection ends
  on-end : noted_in ts ≡ [] → (end : Ending) (n : ℕ) (out : List ℕ)
      → NowBy (channel_in x.server) m piece (Some end) n out ch read (told_in hs) now0 now1
      → EndsOwing changes y end l c first (read ++ take n piece) out written (given ++ ts) (now1, app)
  on-end no_request ending.Closed n out s =
      let q = s.0.quiet in
      let closed = s.0.closed in
      let more = Closed ∷ [] in
      let run = run-here (read ++ take n piece) closed.frames [] Over closed.run in
      let moments_now = moments-here q more (m ∷ []) refl in
      let still = course-behind (channel_in x.server) read hs first.0 now0 m q more o.stands in
      let words = output-behind (channel_in x.server) read hs first.0 now0 m q more o.stands in
      record {
        count_is = o.count_is;
        history = behind q more;
        acted = acted-here q more;
        acts_first = acts-here q more (λ e. refl, tt);
        ends = record {
          frames = closed.frames;
          rest = [];
          to = record {
            run = run;
            told_is = events-here closed.frames _ closed.told_is ∙ told-here q more;
            written_is = rw s.1 (append-nil written
                ∙ sym (append-nil (output_over c s0 (behind q more)) ∙ (words ∙ (append-nil (output_over c s0 hs) ∙ (o.said_is ∙ append-nil written)))));
            requests_are = requests-here q more [] no_request refl;
            state_is = rw still (sym s.2);
            moments_are = (m ∷ [], moments_now, one-kept);
            asked = asked-here (read ++ take n piece) q more (Some m) moments_now
                (over-left l c (read ++ take n piece) closed.frames [] Over (λ e. absurd cc) run);
          };
        };
        last = last-silent n out q more s.1 (refl, tt);
        asked = λ some_words. absurd (no-words out s.1 some_words);
      }
  on-end no_request (ending.Refused code) n out s =
      let q = s.0.quiet in
      let refused = s.0.refused in
      let run = run-here (read ++ take n piece) refused.frames refused.rest (Stopped code.code) refused.run in
      let moments_now = moments-here q [] (m ∷ []) refl in
      let left_over = refused-left n code.code refused.frames refused.rest refused.run in
      let words : output_over c s0 (behind q []) ++ last_words (Stopped code.code) ≡ written ++ out = ap (λ (w : List ℕ). w ++ last_words (Stopped code.code))
      (said-quiet q) ∙ rw (sym s.1) in
      let told_now = events-here refused.frames _ refused.told_is ∙ sym (quiet-here q) in
      record {
        count_is = o.count_is;
        history = behind q [];
        acted = acted-here q [];
        acts_first = acts-here q [] tt;
        ends = record {
          frames = refused.frames;
          rest = refused.rest;
          to = record {
            run = run;
            told_is = told_now;
            written_is = sym words;
            requests_are = requests-here q [] [] no_request refl;
            state_is = state-quiet q ∙ sym s.2;
            moments_are = (m ∷ [], moments_now, one-kept);
            asked = asked-here (read ++ take n piece) q [] (Some m) moments_now left_over;
          };
        };
        last = record {
          front = read ++ take n piece;
          behind = [];
          front_is = sym (append-nil (read ++ take n piece));
          before = behind q [];
          word = Refusal code.code;
          moment = m;
          later = [];
          history_is = sym (append-nil (behind q []));
          silent = tt;
          ends = record {
            frames = refused.frames;
            rest = refused.rest;
            run = run;
            stops = stops-here refused.frames refused.rest code.code refused.stops;
            told_is = told_now;
          };
          part = [];
          written_is = said-before q;
          said_is = rw (append-nil (behind q [])) words;
        };
        asked = λ some_words. rw (append-nil (told_in (behind q []))) (asked-here (read ++ take n piece) q [] (Some m) moments_now left_over);
      }
  on-end no_request ending.NoClose n out s = absurd s
  on-end no_request ending.Cut n out s = absurd s

  -- what became of the first octets of the piece
  pub advanced-quiet : (request : Option AnsweredRequest) → noted_in ts ≡ [] → (end : Option Ending) (n : ℕ) (out : List ℕ)
      → AdvanceNowBy false request (channel_in x.server) m piece end n out ch read (told_in hs) now0 now1
      → AdvancesTo changes end y l c first (read ++ take n piece) out written (given ++ ts) (now1, app)
  advanced-quiet request no_request None n out t =
      on-silent n out t.goes.quiet t.goes.more no_request t.answered_is t.goes.stops
      (goes-stands (channel_in x.server) ch m piece read hs first.0 now0 now1 o.stands chan n out t.goes)
      (goes-output (channel_in x.server) ch m piece read hs first.0 now0 now1 o.stands chan n out t.goes)
  advanced-quiet request no_request (Some end) n out t = on-end no_request end n out t.0

  pub advanced-saying : (request : Option AnsweredRequest) → noted_in ts ≡ listed request → (end : Option Ending) (n : ℕ) (out : List ℕ)
      → AdvanceNowBy true request (channel_in x.server) m piece end n out ch read (told_in hs) now0 now1
      → AdvancesTo changes end (noted y) l c first (read ++ take n piece) out written (given ++ ts) (now1, app)
  advanced-saying request telling None n out t =
      on-saying request n out t.goes.quiet t.goes.more telling t.answered_is t.goes.stops
      (goes-stands (channel_in x.server) ch m piece read hs first.0 now0 now1 o.stands chan n out t.goes)
      (goes-output (channel_in x.server) ch m piece read hs first.0 now0 now1 o.stands chan n out t.goes) t.requests_are
  advanced-saying request telling (Some end) n out t = absurd cc

  -- memory was refused
  broken-on : noted_in ts ≡ [] → now1 ≡ now0 → FailsTelling changes serve_fault.OutOfMemory l c first (read ++ piece) written (given ++ ts) (now1, app)
  broken-on no_request e = record {
    history = hs;
    acted = o.acted;
    acts_first = o.acts_first;
    fails = (
      record {
        unwritten = [];
        last = last-read l c first.0 read piece [] written hs o.last;
        state_is = o.stands.state_is
            ∙ sym e;
        moments_are = (m ∷ [], moments-are, one-kept);
      },
      inr (refl, noted-told no_request),
    );
  }

  pub advanced-broken : noted_in ts ≡ [] → (f : StepFault) → StepNow (channel_in x.server) m piece (Err f) ch read (told_in hs) now0 now1
      → FailsTelling changes serve_fault.OutOfMemory l c first (read ++ piece) written (given ++ ts) (now1, app)
  advanced-broken no_request step_fault.Closed s = absurd s
  advanced-broken no_request step_fault.OutOfMemory (done, inl e) = broken-on no_request e
  advanced-broken no_request step_fault.OutOfMemory (done, inr by) =
      let w = by.ends in
      let q = w.quiet in
      let t = Asked w.id w.token by.message in
      let whole : behind q (t ∷ []) ≡ behind q [] ++ (heard_at m (t ∷ []) ++ []) = whole-history q t in
      let reply = output_over c (course now0 (next_of (channel_in x.server)) [] (agreed_by (told_in hs))) (heard_at m (t ∷ [])) in
      record {
        history = behind q (t ∷ []);
        acted = acted-here q (t ∷ []);
        acts_first = acts-here q (t ∷ []) (λ e. refl, tt);
        fails = (
          record {
            unwritten = reply;
            last = record {
              front = read ++ take w.n piece;
              behind = drop w.n piece;
              front_is = sym (append_assoc read (take w.n piece) (drop w.n piece) ∙ rw (take-append-drop w.n piece));
              before = behind q [];
              word = Answer t;
              moment = m;
              later = [];
              history_is = whole;
              silent = tt;
              ends = record { frames = w.frames; frame = w.frame; run = w.run; told_is = w.told_is ∙ sym (quiet-here q); tells = w.tells; answered = refl };
              part = [];
              written_is = said-before q;
              said_is = append-nil (output_over c s0 (behind q [] ++ heard_at m (t ∷ [])))
                  ∙ (rw (sym whole) (said-here q (t ∷ []) reply (output-behind (channel_in x.server) read hs first.0 now0 m q (t ∷ []) o.stands)));
            };
            state_is = rw (course-behind (channel_in x.server) read hs first.0 now0 m q (t ∷ []) o.stands) (sym by.now_is);
            moments_are = ([], moments-here q (t ∷ []) [] refl, omega arith);
          },
          inl (refl, requests-here q [] [] no_request refl),
        );
      }
