-- The outcome of serving a transport while an application changes the nodes.
use Rattle.std.specs.Prelude.{◌≡◌, ◌⊎◌, ℕ, ◌<◌, ◌≤◌, ℤ, Bool, true, false, List, [], ◌∷◌, ◌++◌, cond, min, length, Option, Result, Ok, Err}
use Rattle.ua_builtin.specs.declared.date_time.DateTime.{DateTime}
use Rattle.ua_frame.specs.Run.{End, Going, Stopped, Over, Run, events}
use Rattle.ua_frame.specs.declared.frame.Frame.{Frame}
use Rattle.ua_frame.specs.declared.limits.Limits.{Limits}
use Rattle.ua_channel.specs.Line.{Traffic, IfTrafficKnown}
use Rattle.ua_channel.specs.ServerRules.{server_rules}
use Rattle.ua_server.specs.Happening.{Event, Happens, Leads, noted_in}
use Rattle.ua_server.specs.History.{ConnectionEvent, Heard, Became, answered_at, course_over, event_answer, heard_at, moments_of, output_over, told_in}
use Rattle.ua_server.specs.Requests.{request_at, with_first}
use Rattle.ua_server.specs.Said.{Course, is_answered, last_words, start}
use Rattle.ua_server.specs.Serving.{AreAsked, EndsAt, IsClean, LastWord, MovesTraffic, coming_now, end_at, greatest, moments_in, told_at}
use Rattle.ua_server.specs.State.{State, with_nodes}
use Rattle.ua_server.specs.declared.serve_fault.ServeFault.{ServeFault}
use Rattle.ua_server.specs.declared.serve_fault.ServeFault.TheVariants as fault
use Rattle.ua_server.specs.declared.step.End.{End as Ending}
use Rattle.ua_server.specs.declared.step.End.TheVariants as ending
use Rattle.ua_server.specs.declared.watch.AnsweredRequest.{AnsweredRequest}

-- ---- what an application does

-- the application led from before to after by the changes among these events, each from the state
-- that the events before it left, and by nothing else: a change of the nodes alone
abbrev pub Acts : {A : Type 0} → (A → State → A → State → Type 0) → ℕ → Course → A → List ConnectionEvent → A → Type 0
Acts changes channel c before [] after = before ≡ after
Acts changes channel c before (Heard t moment ∷ hs) after = Acts changes channel (event_answer channel c (Heard t moment)).1 before hs after
Acts {A = A} changes channel c before (Became nodes made ∷ hs) after =
    (next : A) × changes before c.state next (with_nodes c.state nodes) × (made ≡ c.state.made)
    × Acts changes channel (event_answer channel c (Became nodes made)).1 next hs after

-- whether it acted since the last answer, after these events
abbrev pub has_acted : Bool → List ConnectionEvent → Bool
has_acted acted [] = acted
has_acted acted (Heard t moment ∷ hs) = has_acted (cond (is_answered t) false acted) hs
has_acted acted (Became nodes made ∷ hs) = has_acted true hs

-- the application acted before each answer: there is no other answer in between
abbrev pub ActsFirst : Bool → List ConnectionEvent → Type 0
ActsFirst acted [] = Unit {0}
ActsFirst acted (Heard t moment ∷ hs) = (is_answered t ≡ true → acted ≡ true) × ActsFirst (cond (is_answered t) false acted) hs
ActsFirst acted (Became nodes made ∷ hs) = ActsFirst true hs

-- ---- events

-- the requests that are answered at these events, in order
abbrev pub requests_over : ℕ → Course → List ConnectionEvent → List AnsweredRequest
requests_over channel c [] = []
requests_over channel c (Heard t moment ∷ hs) = with_first (request_at channel (answered_at c t moment) t)
    (requests_over channel (event_answer channel c (Heard t moment)).1 hs)
requests_over channel c (Became nodes made ∷ hs) = requests_over channel (event_answer channel c (Became nodes made)).1 hs

-- nothing is answered at these events
abbrev pub IsSilent : List ConnectionEvent → Type 0
IsSilent [] = Unit {0}
IsSilent (Heard t moment ∷ hs) = (is_answered t ≡ false) × IsSilent hs
IsSilent (Became nodes made ∷ hs) = IsSilent hs

-- these timestamps were given for these events: those that the answers use, in order, and perhaps
-- one more
abbrev pub AreMomentsFor : List ConnectionEvent → List DateTime → Type 0
AreMomentsFor history moments = (kept : List DateTime) × (moments ≡ moments_of history ++ kept) × (length kept ≤ 1)

-- ---- all that was read is answered

-- these are the frames of what was read, and what they told was handled; what was written and the
-- requests that were told are the output for the events, and the state is the one that they leave
pub record FramesAnswered (limits : Limits) (channel : ℕ) (first : State) (read written : List ℕ) (moments : List DateTime) (requested : List AnsweredRequest)
    (history : List ConnectionEvent) (now : State) (frames : List Frame) (rest : List ℕ) (end : End ℕ) : Type 0 where
  pub run : Run (server_rules limits channel) read frames rest end
  pub told_is : events (server_rules limits channel) frames ≡ told_in history
  pub written_is : written ≡ output_over channel (start first []) history ++ last_words end
  pub requests_are : requested ≡ requests_over channel (start first []) history
  pub state_is : (course_over channel (start first []) history).state ≡ now
  pub moments_are : AreMomentsFor history moments
  pub asked : AreAsked limits channel read (told_in history) moments

-- the same for some frames, after which the connection is in this state
pub record AllAnswered (limits : Limits) (channel : ℕ) (first : State) (read written : List ℕ) (moments : List DateTime) (requested : List AnsweredRequest)
    (history : List ConnectionEvent) (now : State) (end : End ℕ) : Type 0 where
  pub frames : List Frame
  pub rest : List ℕ
  pub to : FramesAnswered limits channel first read written moments requested history now frames rest end

-- the input ended: no bytes are to come, and this holds of the frames of what was read and of its
-- rest
pub record RanOutOver (limits : Limits) (channel : ℕ) (first : State) (read written : List ℕ) (moments : List DateTime) (requested : List AnsweredRequest)
    (history : List ConnectionEvent) (now : State) (coming : List ℕ) (P : List Frame → List ℕ → Type 0) : Type 0 where
  pub frames : List Frame
  pub rest : List ℕ
  pub to : FramesAnswered limits channel first read written moments requested history now frames rest Going
  pub none : coming ≡ []
  pub stands : P frames rest

-- ---- broken off

-- a prefix of what was read ends at the last answer for the events, after which nothing is
-- answered; of the output these bytes are written, all before that answer among them, and these are
-- not
pub record LastSaid (limits : Limits) (channel : ℕ) (first : State) (read unwritten written : List ℕ) (history : List ConnectionEvent) : Type 0 where
  pub front : List ℕ
  pub behind : List ℕ
  pub front_is : read ≡ front ++ behind
  pub before : List ConnectionEvent
  pub word : LastWord
  pub moment : DateTime
  pub later : List ConnectionEvent
  pub history_is : history ≡ before ++ (heard_at moment (told_at word) ++ later)
  pub silent : IsSilent later
  pub ends : EndsAt limits channel front (told_in before) word
  pub part : List ℕ
  pub written_is : written ≡ output_over channel (start first []) before ++ part
  pub said_is : output_over channel (start first []) (before ++ heard_at moment (told_at word)) ++ last_words (end_at word) ≡ written ++ unwritten

-- serving broke off at its last answer, and the state is the one that the events leave
pub record BrokenOver (limits : Limits) (channel : ℕ) (first : State) (read written : List ℕ) (moments : List DateTime) (history : List ConnectionEvent)
    (now : State) : Type 0 where
  pub unwritten : List ℕ
  pub last : LastSaid limits channel first read unwritten written history
  pub state_is : (course_over channel (start first []) history).state ≡ now
  pub moments_are : AreMomentsFor history moments

-- ---- by the answer

-- how a connection ended that its own bytes ended
abbrev pub EndedOver : Ending → Limits → ℕ → State → List ℕ → List ℕ → List DateTime → List AnsweredRequest → List ConnectionEvent → State → Type 0
EndedOver ending.Closed limits channel first read written moments requested history now =
    AllAnswered limits channel first read written moments requested history now Over
EndedOver (ending.Refused code) limits channel first read written moments requested history now =
    AllAnswered limits channel first read written moments requested history now (Stopped code.code)
EndedOver ending.NoClose limits channel first read written moments requested history now = ⊥
EndedOver ending.Cut limits channel first read written moments requested history now = ⊥

-- how an answer failed; a failed write tells how many bytes were written in all, up to the greatest
-- number, and leaves some bytes of the last answer unwritten, the request of that answer is told,
-- and no timestamp was requested after it; if an allocation fails the last answer is written whole
-- or not at all, and its request is told if it is written
abbrev pub FailedOver : ServeFault → Limits → ℕ → State → List ℕ → List ℕ → List DateTime → List AnsweredRequest → List ConnectionEvent → State → Type 0
FailedOver fault.Read limits channel first read written moments requested history now = ⊥
FailedOver (fault.Write n) limits channel first read written moments requested history now =
    (broken : BrokenOver limits channel first read written moments history now) × (0 < length broken.unwritten) × (n ≡ min (length written) greatest)
    × AreAsked limits channel broken.last.front (told_in broken.last.before ++ told_at broken.last.word) moments
    × (requested ≡ requests_over channel (start first []) history)
FailedOver fault.OutOfMemory limits channel first read written moments requested history now =
    (broken : BrokenOver limits channel first read written moments history now)
    × (((broken.last.part ≡ []) × (requested ≡ requests_over channel (start first []) broken.last.before))
    ⊎ ((broken.unwritten ≡ []) × (requested ≡ requests_over channel (start first []) history)))
FailedOver fault.TooLong limits channel first read written moments requested history now = ⊥

-- the outcome of serving, if these bytes were read and written at these times, these requests were
-- told, and these bytes are to come
abbrev pub ServesOver : Result Ending ServeFault → Limits → ℕ → State → List ℕ → List ℕ → List DateTime → List AnsweredRequest → List ConnectionEvent → State
    → List ℕ → Type 0
ServesOver (Ok ending.Closed) limits channel first read written moments requested history now coming =
    EndedOver ending.Closed limits channel first read written moments requested history now
ServesOver (Ok (ending.Refused code)) limits channel first read written moments requested history now coming =
    EndedOver (ending.Refused code) limits channel first read written moments requested history now
ServesOver (Ok ending.NoClose) limits channel first read written moments requested history now coming =
    RanOutOver limits channel first read written moments requested history now coming IsClean
ServesOver (Ok ending.Cut) limits channel first read written moments requested history now coming =
    RanOutOver limits channel first read written moments requested history now coming (λ frames rest. IsClean frames rest → ⊥)
ServesOver (Err fault.Read) limits channel first read written moments requested history now coming =
    AllAnswered limits channel first read written moments requested history now Going
ServesOver (Err (fault.Write n)) limits channel first read written moments requested history now coming =
    FailedOver (fault.Write n) limits channel first read written moments requested history now
ServesOver (Err fault.OutOfMemory) limits channel first read written moments requested history now coming =
    FailedOver fault.OutOfMemory limits channel first read written moments requested history now
ServesOver (Err fault.TooLong) limits channel first read written moments requested history now coming =
    AllAnswered limits channel first read written moments requested history now Going × (greatest ≤ length read)

-- ---- by the transport

-- a transport was served from this state on, beside an application: bytes were read and written,
-- exactly these if the transport tells its bytes, timestamps were given and requests told in turn,
-- and the application acted before each answer; what was written, told and left is that of the
-- events
pub record ServesApplication {M W A : Type 0} (limits : Limits) (channel : ℕ) (gives : M → ℤ → M → Type 0) (notes : W → AnsweredRequest → W → Type 0)
    (changes : A → State → A → State → Type 0) (first : State × A) (beside : M × W) (result : Result Ending ServeFault) (now : State × A) (later : M × W)
    (before after : Option Traffic) : Type 0 where
  pub read : List ℕ
  pub written : List ℕ
  pub happened : List Event
  pub history : List ConnectionEvent
  pub moved : IfTrafficKnown (MovesTraffic read written) before after
  pub led : Leads (Happens gives notes) beside happened later
  pub acted : Acts changes channel (start first.0 []) first.1 history now.1
  pub acts_first : ActsFirst false history
  pub comes_to : ServesOver result limits channel first.0 read written (moments_in happened) (noted_in happened) history now.0 (coming_now after)
