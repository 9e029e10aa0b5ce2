-- Events of a connection beside an application, some behind others.
use Rattle.std.specs.Prelude.{◌≡◌, ℕ, Bool, true, false, List, [], ◌∷◌, ◌++◌, cond, length, Option}
use Rattle.std.proofs.Common.{refl, sym, ◌∙◌, ap, append_assoc, arith}
use Rattle.ua_builtin.specs.declared.date_time.DateTime.{DateTime}
use Rattle.ua_channel.specs.Agreement.{Agreement}
use Rattle.ua_channel.specs.ServerPlaces.{agreed_by}
use Rattle.ua_channel.specs.ServerStands.{channel_of, next_of}
use Rattle.ua_channel.specs.ServerTold.{Told, Agreed, Opened, Asked, GaveUp, Closed}
use Rattle.ua_channel.specs.declared.server.ServerChannel.{ServerChannel}
use Rattle.ua_nodes.specs.Table.{Nodes}
use Rattle.ua_server.specs.History.{ConnectionEvent, Heard, Became, StandsOver, answered_at, course_over, event_answer, heard_at, moments_of, told_in}
use Rattle.ua_server.specs.Now.{standing}
use Rattle.ua_server.specs.Requests.{request_at, requests_of, with_first}
use Rattle.ua_server.specs.Said.{Course, is_answered, start, used_in}
use Rattle.ua_server.specs.ServingOver.{Acts, ActsFirst, IsSilent, has_acted, requests_over}
use Rattle.ua_server.specs.State.{State, with_nodes}
use Rattle.ua_server.specs.Stepping.{StepStops, given_up, times_of_answers}
use Rattle.ua_server.specs.declared.watch.AnsweredRequest.{AnsweredRequest}
use Rattle.ua_server.proofs.Histories.{course-after}
use Rattle.ua_server.proofs.RequestsInParts.{first-append}
use Rattle.ua_server.proofs.Steps.{course}

-- ---- one list behind another

pub told_in-append : (a b : List ConnectionEvent) → told_in (a ++ b) ≡ told_in a ++ told_in b
told_in-append [] b = refl
told_in-append (Heard t m ∷ a) b = rw (told_in-append a b)
told_in-append (Became nodes made ∷ a) b = told_in-append a b

pub moments_of-append : (a b : List ConnectionEvent) → moments_of (a ++ b) ≡ moments_of a ++ moments_of b
moments_of-append [] b = refl
moments_of-append (Heard t m ∷ a) b =
    rw (moments_of-append a b) (sym (append_assoc (times_of_answers (t ∷ []) m) (moments_of a) (moments_of b)))
moments_of-append (Became nodes made ∷ a) b = moments_of-append a b

pub requests_over-append : (channel : ℕ) (c : Course) (a b : List ConnectionEvent) → requests_over channel c (a ++ b) ≡ requests_over channel c a
    ++ requests_over channel (course_over channel c a) b
requests_over-append channel c [] b = refl
requests_over-append channel c (Heard t m ∷ a) b =
    let next = (event_answer channel c (Heard t m)).1 in
    ap (λ (r : List AnsweredRequest). with_first (request_at channel (answered_at c t m) t) r) (requests_over-append channel next a b)
    ∙ first-append (request_at channel (answered_at c t m) t) (requests_over channel next a) (requests_over channel (course_over channel next a) b)
requests_over-append channel c (Became nodes made ∷ a) b = requests_over-append channel (event_answer channel c (Became nodes made)).1 a b

pub silent-append : (a b : List ConnectionEvent) → IsSilent a → IsSilent b → IsSilent (a ++ b)
silent-append [] b p q = q
silent-append (Heard t m ∷ a) b p q = (p.0, silent-append a b p.1 q)
silent-append (Became nodes made ∷ a) b p q = silent-append a b p q

pub heard-append : (m : DateTime) (a b : List Told) → heard_at m (a ++ b) ≡ heard_at m a ++ heard_at m b
heard-append m [] b = refl
heard-append m (t ∷ a) b = rw (heard-append m a b)

-- ---- what an application does

module _ {A : Type 0} (changes : A → State → A → State → Type 0) (channel : ℕ) where
  -- it does nothing at what frames tell
  acts-here : (c : Course) (a : A) (m : DateTime) (told : List Told) → Acts changes channel c a (heard_at m told) a
  acts-here c a m [] = refl
  acts-here c a m (t ∷ told) = acts-here (event_answer channel c (Heard t m)).1 a m told

  pub acts-append : (c : Course) (a b d : A) (hs more : List ConnectionEvent) → Acts changes channel c a hs b
      → Acts changes channel (course_over channel c hs) b more d → Acts changes channel c a (hs ++ more) d
  acts-append c a b d [] more p q = rw p q
  acts-append c a b d (Heard t m ∷ hs) more p q = acts-append (event_answer channel c (Heard t m)).1 a b d hs more p q
  acts-append c a b d (Became nodes made ∷ hs) more p q = (p.0, p.1, p.2, acts-append (event_answer channel c (Became nodes made)).1 p.0 b d hs more p.3 q)

  pub acts-heard : (c : Course) (a b : A) (hs : List ConnectionEvent) (m : DateTime) (told : List Told) → Acts changes channel c a hs b
      → Acts changes channel c a (hs ++ heard_at m told) b
  acts-heard c a b hs m told p = acts-append c a b b hs (heard_at m told) p (acts-here (course_over channel c hs) b m told)

  pub acts-became : (c : Course) (a b d : A) (hs : List ConnectionEvent) (before after : State) → Acts changes channel c a hs b
      → (course_over channel c hs).state ≡ before → changes b before d after → after ≡ with_nodes before after.nodes
      → Acts changes channel c a (hs ++ Became after.nodes before.made ∷ []) d
  acts-became c a b d hs before after p state did alone =
      let did_so : changes b before d (with_nodes before after.nodes) = rw (← alone) did in
      acts-append c a b d hs (Became after.nodes before.made ∷ []) p (
        d,
        rw state did_so,
        rw (sym state),
        refl,
      )

-- ---- it acts before each answer

pub acting-append : (acted : Bool) (a b : List ConnectionEvent) → ActsFirst acted a → ActsFirst (has_acted acted a) b → ActsFirst acted (a ++ b)
acting-append acted [] b p q = q
acting-append acted (Heard t m ∷ a) b p q = (p.0, acting-append (cond (is_answered t) false acted) a b p.1 q)
acting-append acted (Became nodes made ∷ a) b p q = acting-append true a b p q

pub acted-behind : (acted : Bool) (a : List ConnectionEvent) (nodes : Nodes) (made : ℕ) → has_acted acted (a ++ Became nodes made ∷ []) ≡ true
acted-behind acted [] nodes made = refl
acted-behind acted (Heard t m ∷ a) nodes made = acted-behind (cond (is_answered t) false acted) a nodes made
acted-behind acted (Became old before ∷ a) nodes made = acted-behind true a nodes made

-- ---- messages that were given up, and then at most one thing that is answered

pub quiet-silent : (m : DateTime) (ids : List ℕ) (more : List Told) → IsSilent (heard_at m more) → IsSilent (heard_at m (given_up ids ++ more))
quiet-silent m [] more h = h
quiet-silent m (id ∷ ids) more h = (refl, quiet-silent m ids more h)

acting-quiet : (m : DateTime) (ids : List ℕ) (more : List Told) → ActsFirst true (heard_at m more) → ActsFirst true (heard_at m (given_up ids ++ more))
acting-quiet m [] more h = h
acting-quiet m (id ∷ ids) more h = (λ e. refl, acting-quiet m ids more h)

pub acting-on : (hs : List ConnectionEvent) (m : DateTime) (ids : List ℕ) (more : List Told) → has_acted false hs ≡ true → ActsFirst false hs
    → ActsFirst true (heard_at m more) → ActsFirst false (hs ++ heard_at m (given_up ids ++ more))
acting-on hs m ids more acted p h =
    acting-append false hs (heard_at m (given_up ids ++ more)) p
    (rw acted (acting-quiet m ids more h))

quiet-moments : (m : DateTime) (ids : List ℕ) (more : List Told) → moments_of (heard_at m (given_up ids ++ more)) ≡ moments_of (heard_at m more)
quiet-moments m [] more = refl
quiet-moments m (id ∷ ids) more = quiet-moments m ids more

pub moments-heard : (hs : List ConnectionEvent) (m : DateTime) (ids : List ℕ) (more : List Told) → moments_of (hs ++ heard_at m (given_up ids ++ more))
    ≡ moments_of hs ++ moments_of (heard_at m more)
moments-heard hs m ids more = moments_of-append hs (heard_at m (given_up ids ++ more))
    ∙ rw (quiet-moments m ids more)

quiet-requests : (channel : ℕ) (s : State) (n : ℕ) (a : Option Agreement) (m : DateTime) (ids : List ℕ) (more : List Told)
    → requests_over channel (course s n [] a) (heard_at m (given_up ids ++ more)) ≡ requests_over channel (course s n [] a) (heard_at m more)
quiet-requests channel s n a m [] more = refl
quiet-requests channel s n a m (id ∷ ids) more = quiet-requests channel s n a m ids more

pub requests-behind : (x : ServerChannel) (octets : List ℕ) (hs : List ConnectionEvent) (first before : State) (m : DateTime) (ids : List ℕ) (more : List Told)
    → StandsOver x octets hs first before
    → requests_over (channel_of x) (start first []) (hs ++ heard_at m (given_up ids ++ more))
    ≡ requests_over (channel_of x) (start first []) hs ++ requests_over (channel_of x) (course before (next_of x) [] (agreed_by (told_in hs))) (heard_at m more)
requests-behind x octets hs first before m ids more s =
    requests_over-append (channel_of x) (start first []) hs (heard_at m (given_up ids ++ more))
    ∙ rw (ap (λ (c : Course). requests_over (channel_of x) c (heard_at m (given_up ids ++ more))) (course-after x octets hs first before s)
    ∙ quiet-requests (channel_of x) before (next_of x) (agreed_by (told_in hs)) m ids more)

-- at most one thing is told at a moment
pub one-request : (channel : ℕ) (s : State) (n : ℕ) (a : Option Agreement) (m : DateTime) (new : ServerChannel) (octets piece : List ℕ) (k : ℕ) (out : List ℕ)
    (told more : List Told) → StepStops new octets piece k out told more
    → requests_over channel (course s n [] a) (heard_at m more) ≡ requests_of channel (standing s n a more m) more
one-request channel s n a m new octets piece k out told [] h = refl
one-request channel s n a m new octets piece k out told (t ∷ []) h = refl
one-request channel s n a m new octets piece k out told (t ∷ (u ∷ more)) h = absurd h

-- ---- how many moments

pub moments-count : (hs : List ConnectionEvent) → length (moments_of hs) ≡ used_in (told_in hs)
moments-count [] = refl
moments-count (Heard (Agreed g) m ∷ hs) = let more = moments-count hs in omega (arith, more)
moments-count (Heard (Opened id handle token lifetime) m ∷ hs) = let more = moments-count hs in omega (arith, more)
moments-count (Heard (Asked id token octets) m ∷ hs) = let more = moments-count hs in omega (arith, more)
moments-count (Heard (GaveUp id) m ∷ hs) = let more = moments-count hs in omega (arith, more)
moments-count (Heard Closed m ∷ hs) = let more = moments-count hs in omega (arith, more)
moments-count (Became nodes made ∷ hs) = moments-count hs

pub silent-used : (hs : List ConnectionEvent) → IsSilent hs → used_in (told_in hs) ≡ 0
silent-used [] h = refl
silent-used (Heard (Agreed g) m ∷ hs) h = let no = h.0 in absurd cc
silent-used (Heard (Opened id handle token lifetime) m ∷ hs) h = let no = h.0 in absurd cc
silent-used (Heard (Asked id token octets) m ∷ hs) h = let no = h.0 in absurd cc
silent-used (Heard (GaveUp id) m ∷ hs) h = let more = silent-used hs h.1 in omega (arith, more)
silent-used (Heard Closed m ∷ hs) h = let more = silent-used hs h.1 in omega (arith, more)
silent-used (Became nodes made ∷ hs) h = silent-used hs h

pub silent-requests : (channel : ℕ) (c : Course) (hs : List ConnectionEvent) → IsSilent hs → requests_over channel c hs ≡ []
silent-requests channel c [] h = refl
silent-requests channel c (Heard (Agreed g) m ∷ hs) h = let no = h.0 in absurd cc
silent-requests channel c (Heard (Opened id handle token lifetime) m ∷ hs) h = let no = h.0 in absurd cc
silent-requests channel c (Heard (Asked id token octets) m ∷ hs) h = let no = h.0 in absurd cc
silent-requests channel c (Heard (GaveUp id) m ∷ hs) h = silent-requests channel (event_answer channel c (Heard (GaveUp id) m)).1 hs h.1
silent-requests channel c (Heard Closed m ∷ hs) h = silent-requests channel (event_answer channel c (Heard Closed m)).1 hs h.1
silent-requests channel c (Became nodes made ∷ hs) h = silent-requests channel (event_answer channel c (Became nodes made)).1 hs h
