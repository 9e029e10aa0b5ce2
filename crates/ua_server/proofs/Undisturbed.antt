-- What is served beside an application that does nothing is what is served without one.
use Rattle.std.proofs.Common.{refl, sym, ◌∙◌, ap, inl, inr, length-append, append_assoc, arith, subst, append-nil}
use Rattle.std.specs.Prelude.{◌≡◌, List, [], ◌∷◌, length, Option, Some, None, ℕ, ◌++◌, ◌≤◌, ℤ, Result, ◌⊎◌, Ok, Err}
use Rattle.ua_builtin.specs.declared.date_time.DateTime.{DateTime}
use Rattle.ua_channel.specs.Agreement.{Agreement}
use Rattle.ua_channel.specs.Line.{Traffic}
use Rattle.ua_channel.specs.ServerRules.{server_rules}
use Rattle.ua_channel.specs.ServerTold.{Told, Asked, Agreed, Opened, GaveUp, Closed}
use Rattle.ua_frame.specs.Run.{Going, events, End, Stopped, Over}
use Rattle.ua_frame.specs.declared.frame.Frame.{Frame}
use Rattle.ua_frame.specs.declared.limits.Limits.{Limits}
use Rattle.ua_nodes.specs.Table.{Nodes}
use Rattle.ua_server.proofs.Acting.{moments_of-append, requests_over-append, told_in-append, moments-count, silent-requests, silent-used}
use Rattle.ua_server.proofs.Histories.{told-heard, same-left, same-said}
use Rattle.ua_server.proofs.RequestsInParts.{requests-more}
use Rattle.ua_server.proofs.SaidInParts.{left-more, used_in-append, left-append, said-more}
use Rattle.ua_server.proofs.Steps.{course}
use Rattle.ua_server.specs.Happening.{noted_in}
use Rattle.ua_server.specs.History.{ConnectionEvent, Became, course_over, heard_at, output_over, told_in}
use Rattle.ua_server.specs.History.{Heard, event_answer, with_changes, IsUndisturbed, moments_of, answered_at}
use Rattle.ua_server.specs.Requests.{with_first, request_at, requests_of, requests_answered}
use Rattle.ua_server.specs.Said.{say, start, Course, last_words, said_of, course_after, output_of, state_after, used_in}
use Rattle.ua_server.specs.Serving.{moments_in, ServesTelling, told_at, end_at, BrokenOff}
use Rattle.ua_server.specs.Serving.{coming_now, AnsweredAllRead, AnsweredTo, ServesBy, TellsBy, AreUsed}
use Rattle.ua_server.specs.ServingOver.{IsSilent, LastSaid, Acts, AllAnswered, BrokenOver, FramesAnswered, ServesApplication, ServesOver, requests_over}
use Rattle.ua_server.specs.State.{State, with_nodes}
use Rattle.ua_server.specs.declared.serve_fault.ServeFault.{ServeFault}
use Rattle.ua_server.specs.declared.step.End.{End as Ending}
use Rattle.ua_server.specs.declared.watch.AnsweredRequest.{AnsweredRequest}
use Rattle.ua_server.specs.declared.step.End.TheVariants as ending
use Rattle.ua_server.specs.declared.serve_fault.ServeFault.TheVariants as fault

-- ---- the events without changes

-- what frames told alone
abbrev heard_only : List ConnectionEvent → List ConnectionEvent
heard_only [] = []
heard_only (Heard t m ∷ hs) = Heard t m ∷ heard_only hs
heard_only (Became nodes made ∷ hs) = heard_only hs

undisturbed : (hs : List ConnectionEvent) → IsUndisturbed (heard_only hs)
undisturbed [] = tt
undisturbed (Heard t m ∷ hs) = undisturbed hs
undisturbed (Became nodes made ∷ hs) = undisturbed hs

heard-told : (hs : List ConnectionEvent) → told_in (heard_only hs) ≡ told_in hs
heard-told [] = refl
heard-told (Heard t m ∷ hs) = rw (heard-told hs)
heard-told (Became nodes made ∷ hs) = heard-told hs

heard-moments : (hs : List ConnectionEvent) → moments_of (heard_only hs) ≡ moments_of hs
heard-moments [] = refl
heard-moments (Heard t m ∷ hs) = rw (heard-moments hs)
heard-moments (Became nodes made ∷ hs) = heard-moments hs

same-requests : (channel : ℕ) (s : State) (n : ℕ) (a : Option Agreement) (hs : List ConnectionEvent) → IsUndisturbed hs
    → requests_over channel (course s n [] a) hs ≡ requests_of channel (course s n (moments_of hs) a) (told_in hs)
same-requests channel s n a [] u = refl
same-requests channel s n a (Heard (Agreed g) m ∷ hs) u = same-requests channel s n (Some g) hs u
same-requests channel s n a (Heard (Opened id handle token lifetime) m ∷ hs) u =
    let c = (say channel (course s n (m ∷ moments_of hs) a) (Opened id handle token lifetime)).1 in
    same-requests channel c.state c.number c.agreement hs u
same-requests channel s n a (Heard (Asked id token octets) m ∷ hs) u =
    let c = (say channel (course s n (m ∷ moments_of hs) a) (Asked id token octets)).1 in
    ap (λ (r : List AnsweredRequest). with_first (request_at channel (course s n (m ∷ moments_of hs) a) (Asked id token octets)) r)
    (same-requests channel c.state c.number c.agreement hs u)
same-requests channel s n a (Heard (GaveUp id) m ∷ hs) u = same-requests channel s n a hs u
same-requests channel s n a (Heard Closed m ∷ hs) u = same-requests channel s n a hs u
same-requests channel s n a (Became nodes made ∷ hs) u = absurd u

state-is : (channel : ℕ) (s : State) (told : List Told) (ms : List DateTime) → state_after channel s told ms ≡ course_after channel (start s ms) told
unfolding state_after
state-is channel s told ms = refl

output-is : (channel : ℕ) (s : State) (told : List Told) (end : End ℕ) (ms : List DateTime)
    → output_of channel s told end ms ≡ said_of channel (start s ms) told ++ last_words end
unfolding output_of
output-is channel s told end ms = refl

requests-are : (channel : ℕ) (s : State) (told : List Told) (ms : List DateTime) → requests_answered channel s told ms ≡ requests_of channel (start s ms) told
unfolding requests_answered
requests-are channel s told ms = refl

-- silent events leave the course as it was
quiet-told : (channel : ℕ) (c : Course) (hs : List ConnectionEvent) → IsSilent hs → course_after channel c (told_in hs) ≡ c
quiet-told channel c [] h = refl
quiet-told channel c (Heard (Agreed g) m ∷ hs) h = let no = h.0 in absurd cc
quiet-told channel c (Heard (Opened id handle token lifetime) m ∷ hs) h = let no = h.0 in absurd cc
quiet-told channel c (Heard (Asked id token octets) m ∷ hs) h = let no = h.0 in absurd cc
quiet-told channel c (Heard (GaveUp id) m ∷ hs) h = quiet-told channel c hs h.1
quiet-told channel c (Heard Closed m ∷ hs) h = quiet-told channel c hs h.1
quiet-told channel c (Became nodes made ∷ hs) h = quiet-told channel c hs h

module _ {A : Type 0} (changes : A → State → A → State → Type 0) (none : (a b : A) (s t : State) → changes a s b t → t ≡ s) (channel : ℕ) where
  same-state : (s : State) (nodes : Nodes) (made : ℕ) (a b : A) → changes a s b (with_nodes s nodes) → made ≡ s.made → with_changes s nodes made ≡ s
  same-state s nodes made a b did e = rw e (none a b s (with_nodes s nodes) did)

  front-acts : (c : Course) (a b : A) (hs more : List ConnectionEvent) → Acts changes channel c a (hs ++ more) b → (d : A) × Acts changes channel c a hs d
  front-acts c a b [] more p = (a, refl)
  front-acts c a b (Heard t m ∷ hs) more p = front-acts (event_answer channel c (Heard t m)).1 a b hs more p
  front-acts c a b (Became nodes made ∷ hs) more p = let q = front-acts (event_answer channel c (Became nodes made)).1 p.0 b hs more p.3 in
      (q.0, (p.0, p.1, p.2, q.1))

  only-left : (s : State) (n : ℕ) (g : Option Agreement) (a b : A) (hs : List ConnectionEvent) → Acts changes channel (course s n [] g) a hs b
      → course_over channel (course s n [] g) hs ≡ course_over channel (course s n [] g) (heard_only hs)
  only-left s n g a b [] p = refl
  only-left s n g a b (Heard t m ∷ hs) p = let c = (event_answer channel (course s n [] g) (Heard t m)).1 in only-left c.state c.number c.agreement a b hs p
  only-left s n g a b (Became nodes made ∷ hs) p =
      let same = same-state s nodes made a p.0 p.1 p.2 in
      ap (λ (x : State). course_over channel (course x n [] g) hs) same
      ∙ only-left s n g p.0 b hs (subst (λ (x : State). Acts changes channel (course x n [] g) p.0 hs b) same p.3)

  only-said : (s : State) (n : ℕ) (g : Option Agreement) (a b : A) (hs : List ConnectionEvent) → Acts changes channel (course s n [] g) a hs b
      → output_over channel (course s n [] g) hs ≡ output_over channel (course s n [] g) (heard_only hs)
  only-said s n g a b [] p = refl
  only-said s n g a b (Heard t m ∷ hs) p =
      let c = (event_answer channel (course s n [] g) (Heard t m)).1 in
      ap (λ (o : List ℕ). (event_answer channel (course s n [] g) (Heard t m)).0 ++ o) (only-said c.state c.number c.agreement a b hs p)
  only-said s n g a b (Became nodes made ∷ hs) p =
      let same = same-state s nodes made a p.0 p.1 p.2 in
      ap (λ (x : State). output_over channel (course x n [] g) hs) same
      ∙ only-said s n g p.0 b hs (subst (λ (x : State). Acts changes channel (course x n [] g) p.0 hs b) same p.3)

  only-requests : (s : State) (n : ℕ) (g : Option Agreement) (a b : A) (hs : List ConnectionEvent) → Acts changes channel (course s n [] g) a hs b
      → requests_over channel (course s n [] g) hs ≡ requests_over channel (course s n [] g) (heard_only hs)
  only-requests s n g a b [] p = refl
  only-requests s n g a b (Heard t m ∷ hs) p =
      let c = (event_answer channel (course s n [] g) (Heard t m)).1 in
      ap (λ (r : List AnsweredRequest). with_first (request_at channel (answered_at (course s n [] g) t m) t) r)
      (only-requests c.state c.number c.agreement a b hs p)
  only-requests s n g a b (Became nodes made ∷ hs) p =
      let same = same-state s nodes made a p.0 p.1 p.2 in
      ap (λ (x : State). requests_over channel (course x n [] g) hs) same
      ∙ only-requests s n g p.0 b hs (subst (λ (x : State). Acts changes channel (course x n [] g) p.0 hs b) same p.3)

  -- ---- by what was told, and the moments

  enough : (hs : List ConnectionEvent) → used_in (told_in hs) ≤ length (moments_of hs)
  enough hs = let e = moments-count hs in omega (arith, e)

  module _ (first : State) (a b : A) (hs : List ConnectionEvent) (ms more : List DateTime) (are : ms ≡ moments_of hs ++ more)
      (acts : Acts changes channel (start first []) a hs b) where
    plain-state : (state_after channel first (told_in hs) ms).state ≡ (course_over channel (start first []) hs).state
    plain-state =
        rw (are, left-more channel first (told_in hs) (moments_of hs) more (enough hs), sym by-events)
      where
        by-events : course_over channel (start first []) hs ≡ state_after channel first (told_in hs) (moments_of hs)
        by-events =
            only-left first 1 None a b hs acts
            ∙ (same-left channel first 1 None (heard_only hs) (undisturbed hs)
            ∙ (rw (heard-moments hs, heard-told hs) (sym (state-is channel first (told_in hs) (moments_of hs)))))

    plain-said : (end : End ℕ) → output_over channel (start first []) hs ++ last_words end ≡ output_of channel first (told_in hs) end ms
    plain-said end =
        rw by-events (sym (output-is channel first (told_in hs) end (moments_of hs))
        ∙ (sym (said-more channel first (told_in hs) end (moments_of hs) more (enough hs))
        ∙ rw (sym are)))
      where
        by-events : output_over channel (start first []) hs ≡ said_of channel (start first (moments_of hs)) (told_in hs)
        by-events =
            only-said first 1 None a b hs acts
            ∙ (same-said channel first 1 None (heard_only hs) (undisturbed hs)
            ∙ (rw (heard-moments hs, heard-told hs)))

    plain-requests : requests_over channel (start first []) hs ≡ requests_answered channel first (told_in hs) ms
    plain-requests =
        by-events
        ∙ (sym (requests-are channel first (told_in hs) (moments_of hs))
        ∙ (sym (requests-more channel first (told_in hs) (moments_of hs) more (enough hs))
        ∙ rw (sym are)))
      where
        by-events : requests_over channel (start first []) hs ≡ requests_of channel (start first (moments_of hs)) (told_in hs)
        by-events =
            only-requests first 1 None a b hs acts
            ∙ (same-requests channel first 1 None (heard_only hs) (undisturbed hs)
            ∙ (rw (heard-moments hs, heard-told hs)))

  -- ---- what serving comes to

  module _ (limits : Limits) (first : State) (read written : List ℕ) (moments : List DateTime) (requested : List AnsweredRequest) (hs : List ConnectionEvent)
      (now : State) (a b : A) (acts : Acts changes channel (start first []) a hs b) where
    -- all that was read is answered
    plain-frames : (frames : List Frame) (rest : List ℕ) (end : End ℕ)
        → FramesAnswered limits channel first read written moments requested hs now frames rest end
        → AnsweredTo limits channel first read written moments now frames rest end
    plain-frames frames rest end f = record {
      run = f.run;
      written_is = f.written_is
          ∙ (plain-said first a b hs moments f.moments_are.0 f.moments_are.1 acts end
          ∙ rw (sym f.told_is));
      state_is = rw f.told_is (plain-state first a b hs moments f.moments_are.0 f.moments_are.1 acts ∙ f.state_is);
      asked = rw f.told_is f.asked;
    }

    plain-told : (frames : List Frame) (rest : List ℕ) (end : End ℕ) → FramesAnswered limits channel first read written moments requested hs now frames rest end
        → requested ≡ requests_answered channel first (events (server_rules limits channel) frames) moments
    plain-told frames rest end f = f.requests_are
        ∙ (plain-requests first a b hs moments f.moments_are.0 f.moments_are.1 acts
        ∙ rw (sym f.told_is))

    plain-answered : (end : End ℕ) (w : AllAnswered limits channel first read written moments requested hs now end)
        → (v : AnsweredAllRead limits channel first read written moments now end)
        × (requested ≡ requests_answered channel first (events (server_rules limits channel) v.frames) moments)
    plain-answered end w = (record { frames = w.frames; rest = w.rest; to = plain-frames w.frames w.rest end w.to }, plain-told w.frames w.rest end w.to)

    -- it broke off
    module _ (w : BrokenOver limits channel first read written moments hs now) where
      abbrev p : LastSaid limits channel first read w.unwritten written hs
      p = w.last

      -- the events up to the last word
      abbrev up_to : List ConnectionEvent
      up_to = p.before ++ heard_at p.moment (told_at p.word)

      split : hs ≡ up_to ++ p.later
      split = p.history_is ∙ sym (append_assoc p.before (heard_at p.moment (told_at p.word)) p.later)

      told-up : told_in up_to ≡ told_in p.before ++ told_at p.word
      told-up = told-heard p.before p.moment (told_at p.word)

      told-all : told_in hs ≡ (told_in p.before ++ told_at p.word) ++ told_in p.later
      told-all = ap told_in split ∙ (told_in-append up_to p.later ∙ rw told-up)

      moments-up : moments ≡ moments_of up_to ++ (moments_of p.later ++ w.moments_are.0)
      moments-up = w.moments_are.1 ∙ (ap (λ (h : List ConnectionEvent). moments_of h ++ w.moments_are.0) split
          ∙ (rw (moments_of-append up_to p.later) (append_assoc (moments_of up_to) (moments_of p.later) w.moments_are.0)))

      moments-before : moments ≡ moments_of p.before ++ (moments_of (heard_at p.moment (told_at p.word)) ++ (moments_of p.later ++ w.moments_are.0))
      moments-before = moments-up
          ∙ (rw (moments_of-append p.before (heard_at p.moment (told_at p.word)))
          (append_assoc (moments_of p.before) (moments_of (heard_at p.moment (told_at p.word))) (moments_of p.later ++ w.moments_are.0)))

      acts-up : (d : A) × Acts changes channel (start first []) a up_to d
      acts-up = front-acts (start first []) a b up_to p.later (rw (← split) acts)

      acts-before : (d : A) × Acts changes channel (start first []) a p.before d
      acts-before = front-acts (start first []) a acts-up.0 p.before (heard_at p.moment (told_at p.word)) acts-up.1

      state-up : (state_after channel first (told_in p.before ++ told_at p.word) moments).state ≡ now
      state-up =
          rw (
            sym (left-append channel first (told_in p.before ++ told_at p.word) (told_in p.later) moments
                ∙ quiet-told channel (state_after channel first (told_in p.before ++ told_at p.word) moments) p.later p.silent),
            sym told-all,
          ) (plain-state first a b hs moments w.moments_are.0 w.moments_are.1 acts ∙ w.state_is)

      used-up : AreUsed (told_in p.before ++ told_at p.word) moments
      used-up =
          let kept = w.moments_are.2 in
          let count = ap length w.moments_are.1 ∙ length-append (moments_of hs) w.moments_are.0 in
          let used = moments-count hs ∙ (ap used_in told-all ∙ used_in-append (told_in p.before ++ told_at p.word) (told_in p.later)) in
          let quiet = silent-used p.later p.silent in
          (omega (arith, kept, count, used, quiet), omega (arith, kept, count, used, quiet))

      said-before : output_over channel (start first []) p.before ≡ output_of channel first (told_in p.before) Going moments
      said-before = sym (append-nil (output_over channel (start first []) p.before))
          ∙ plain-said first a acts-before.0 p.before moments (moments_of (heard_at p.moment (told_at p.word)) ++ (moments_of p.later ++ w.moments_are.0))
          moments-before acts-before.1 Going

      said-up : output_of channel first (told_in p.before ++ told_at p.word) (end_at p.word) moments ≡ written ++ w.unwritten
      said-up = rw (sym told-up) (sym (plain-said first a acts-up.0 up_to moments (moments_of p.later ++ w.moments_are.0) moments-up acts-up.1 (end_at p.word))
          ∙ p.said_is)

      abbrev plain-broken : BrokenOff limits channel first read written moments now
      plain-broken = record {
        front = p.front;
        behind = p.behind;
        front_is = p.front_is;
        before = told_in p.before;
        word = p.word;
        ends = p.ends;
        state_is = state-up;
        used = used-up;
        part = p.part;
        written_is = p.written_is ∙ rw said-before;
        unwritten = w.unwritten;
        said_is = said-up;
      }

      -- the requests up to the last word, and before it
      asked-up : requests_over channel (start first []) hs ≡ requests_answered channel first (told_in p.before ++ told_at p.word) moments
      asked-up =
          ap (λ (h : List ConnectionEvent). requests_over channel (start first []) h) split
          ∙ (requests_over-append channel (start first []) up_to p.later
          ∙ (rw (silent-requests channel (course_over channel (start first []) up_to) p.later p.silent)
          (append-nil (requests_over channel (start first []) up_to)
          ∙ (plain-requests first a acts-up.0 up_to moments (moments_of p.later ++ w.moments_are.0) moments-up acts-up.1
          ∙ rw told-up))))

      asked-before : requests_over channel (start first []) p.before ≡ requests_answered channel first (told_in p.before) moments
      asked-before = plain-requests first a acts-before.0 p.before moments
          (moments_of (heard_at p.moment (told_at p.word)) ++ (moments_of p.later ++ w.moments_are.0)) moments-before acts-before.1

    still-told : (w : BrokenOver limits channel first read written moments hs now)
        → ((w.last.part ≡ []) × (requested ≡ requests_over channel (start first []) w.last.before))
        ⊎ ((w.unwritten ≡ []) × (requested ≡ requests_over channel (start first []) hs))
        → ((w.last.part ≡ []) × (requested ≡ requests_answered channel first (told_in w.last.before) moments))
        ⊎ ((w.unwritten ≡ []) × (requested ≡ requests_answered channel first (told_in w.last.before ++ told_at w.last.word) moments))
    still-told w (inl h) = inl (h.0, h.1 ∙ asked-before w)
    still-told w (inr h) = inr (h.0, h.1 ∙ asked-up w)

    still-whole : (w : BrokenOver limits channel first read written moments hs now)
        → ((w.last.part ≡ []) × (requested ≡ requests_over channel (start first []) w.last.before))
        ⊎ ((w.unwritten ≡ []) × (requested ≡ requests_over channel (start first []) hs))
        → (w.last.part ≡ []) ⊎ (w.unwritten ≡ [])
    still-whole w (inl h) = inl h.0
    still-whole w (inr h) = inr h.0

    plain-serves : (result : Result Ending ServeFault) (coming : List ℕ) → ServesOver result limits channel first read written moments requested hs now coming
        → (s : ServesBy result limits channel first read written moments now coming)
        × TellsBy result limits channel first read written moments now coming s requested
    plain-serves (Ok ending.Closed) coming w = plain-answered Over w
    plain-serves (Ok (ending.Refused code)) coming w = plain-answered (Stopped code.code) w
    plain-serves (Ok ending.NoClose) coming w = (
      record { frames = w.frames; rest = w.rest; to = plain-frames w.frames w.rest Going w.to; none = w.none; stands = w.stands },
      plain-told w.frames w.rest Going w.to,
    )
    plain-serves (Ok ending.Cut) coming w = (
      record { frames = w.frames; rest = w.rest; to = plain-frames w.frames w.rest Going w.to; none = w.none; stands = w.stands },
      plain-told w.frames w.rest Going w.to,
    )
    plain-serves (Err fault.Read) coming w = plain-answered Going w
    plain-serves (Err (fault.Write n)) coming w = ((plain-broken w.0, w.1, w.2, w.3), w.4 ∙ asked-up w.0)
    plain-serves (Err fault.OutOfMemory) coming w = ((plain-broken w.0, still-whole w.0 w.1), still-told w.0 w.1)
    plain-serves (Err fault.TooLong) coming w = let v = plain-answered Going w.0 in ((v.0, w.1), v.1)

-- what is served beside an application that does nothing
pub serves-alone : {M W A : Type 0} (limits : Limits) (channel : ℕ) (gives : M → ℤ → M → Type 0) (notes : W → AnsweredRequest → W → Type 0) (changes : A → State
    → A → State → Type 0) (none : (a b : A) (s t : State) → changes a s b t → t ≡ s)
    (first : State × A) (beside : M × W) (result : Result Ending ServeFault) (now : State × A) (later : M × W) (before after : Option Traffic)
    → ServesApplication limits channel gives notes changes first beside result now later before after
    → ServesTelling limits channel gives notes first.0 beside result now.0 later before after
serves-alone limits channel gives notes changes none first beside result now later before after s =
    let plain = plain-serves changes none channel limits first.0 s.read s.written (moments_in s.happened) (noted_in s.happened) s.history now.0 first.1 now.1
    s.acted result (coming_now after) s.comes_to in
    record { read = s.read; written = s.written; happened = s.happened; moved = s.moved; led = s.led; comes_to = plain.0; tells = plain.1 }
