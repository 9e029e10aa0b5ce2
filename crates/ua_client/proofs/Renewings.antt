-- How the token of a channel is renewed.
use Rattle.std.specs.Prelude.{◌≡◌, ◌⊎◌, ℕ, ◌<◌, ◌+◌, ◌≤◌, nat_le, Bool, true, false, is_some, List}
use Rattle.std.specs.Prelude.{[], ◌∷◌, ◌++◌, length, Option, Some, None, Result, Ok, Err, IfErr}
use Rattle.std.proofs.Common.{refl, sym, ◌∙◌, ap, subst, inl, inr, append_assoc, arith}
use Rattle.std.proofs.Math.Logic.{∥∥₁_elim}
use Rattle.std.proofs.lemmas.List.{length-append}
use mathlib.Core.HLevel.{⊥_prop}
use Rattle.ua_builtin.specs.Reasons.{first_reason}
use Rattle.ua_builtin.specs.declared.date_time.DateTime.{DateTime}
use Rattle.ua_frame.specs.Frames.{frame_octets}
use Rattle.ua_frame.specs.declared.frame.Frame.{Frame}
use Rattle.ua_frame.specs.declared.limits.Limits.{Limits}
use Rattle.ua_chunk.specs.Sequence.{next_number}
use Rattle.ua_chunk.specs.declared.lane.Lane.{Lane}
use Rattle.ua_channel.specs.Asks.{Asking, Placed, asked_in, calls, next_id, pending_renewals, renewals}
use Rattle.ua_channel.specs.Asks.Asking.{Renewal}
use Rattle.ua_channel.specs.Client.{ClientGoes, ClientGoesTelling, HasNoChannel, InPhase, IsNotOpen, IsRenewal, SameClient}
use Rattle.ua_channel.specs.Client.{SendsRenewal, ClientStands, client_limits, client_next, phase_of, renew_refusal, renewal_refused}
use Rattle.ua_channel.specs.ClientAsks.{IsAskFaultFor, most_tokens, no_id}
use Rattle.ua_channel.specs.ClientSends.{renewal_frame}
use Rattle.ua_channel.specs.ClientTokens.{held_tokens, opened_ids}
use Rattle.ua_channel.specs.ClientTold.{ClientTold}
use Rattle.ua_channel.specs.ClientTold.ClientTold.{Agreed, Opened, Answered, GaveUp, Renewed}
use Rattle.ua_channel.specs.Line.{Traffic, IfTrafficKnown}
use Rattle.ua_channel_laws.specs.Outgoing.{renewal_by}
use Rattle.ua_channel.specs.Received.{Received, latest, listed, received}
use Rattle.ua_channel.specs.declared.client.channel.ClientChannel.{ClientChannel}
use Rattle.ua_channel.specs.declared.client.event.ClientEvent.{ClientEvent}
use Rattle.ua_channel.specs.declared.client.event.ClientEvent.TheVariants as event
use Rattle.ua_channel.specs.declared.client.fault.AskFault.{AskFault}
use Rattle.ua_channel.specs.declared.client.fault.AskFault.TheVariants as ask_fault
use Rattle.ua_channel.specs.declared.client.phase.Phase.{Phase}
use Rattle.ua_channel.specs.declared.client.phase.Phase.TheVariants as phase
use Rattle.ua_channel.proofs.Askings.{asked_in-push, renewals-push}
use Rattle.ua_channel_laws.proofs.ClientReadsOnce.{stands_once}
use Rattle.ua_client.specs.Carried.{Carries, IsPart, WritesFront}
use Rattle.ua_client.specs.Hearing.{channel_of_connection, is_hearing_fault, untaken_of, most_reads, KeepsClient, MovesConnection, StopsByTraffic}
use Rattle.ua_client.specs.Opening.{is_opened, any_done, GoesUntil, IsOpened, WaitsAfter, Waits}
use Rattle.ua_client.specs.Renewing.{is_renewed, IsIdle, IsSettled, IsRefusal, StandsSettled, renewal_refusal}
use Rattle.ua_client.specs.Renewing.{refused_by, of_renew_fault, renewal_at, asks_renewed, IsRenewed, RenewsAt, Renews}
use Rattle.ua_client.specs.ClientPlace.{ClientPlace, StandsAt, id_at, lane_behind}
use Rattle.ua_client.specs.declared.connection.Connection.{Connection}
use Rattle.ua_client.specs.declared.fault.ClientFault.{ClientFault}
use Rattle.ua_client.specs.declared.fault.ClientFault.TheVariants as fault
use Rattle.ua_client.proofs.Carrying.{carried-nothing, sends-part}
use Rattle.ua_client.proofs.Hearings.{moves-from, moves-writing, GoesOnBehind}
use Rattle.ua_client.proofs.Lanes.{lane-talks}
use Rattle.ua_client.proofs.Openings.{Tests, any-left, sent-first}
use Rattle.ua_client.proofs.Renewals.{newest-renewed, tokens-told, tokens-append}
use Rattle.ua_client.proofs.Settled.{AreTold, is-open, phase-there, told-longer, told-renewed}

-- ---- events

-- an event is a further token
abbrev pub is_token : ClientEvent → Bool
is_token event.NeedMore = false
is_token (event.Send sent) = false
is_token event.Open = false
is_token (event.Answered id message) = false
is_token (event.Aborted id code) = false
is_token (event.Failed code peer) = false
is_token (event.Renewed token) = true

pub tests-renewed : Tests is_token is_renewed
tests-renewed moment event.NeedMore t h = absurd h
tests-renewed moment (event.Send sent) t h = ap is_renewed h.1.1
tests-renewed moment event.Open t h = ap is_renewed h.1.1
tests-renewed moment (event.Answered id message) t h = ap is_renewed h
tests-renewed moment (event.Aborted id code) t h = ap is_renewed h
tests-renewed moment (event.Failed code peer) t h = absurd h
tests-renewed moment (event.Renewed token) t h = ap is_renewed h

pub not-token : (e : ClientEvent) → ((token : _) → e ≡ event.Renewed token → ⊥) → is_token e ≡ false
not-token event.NeedMore h = refl
not-token (event.Send sent) h = refl
not-token event.Open h = refl
not-token (event.Answered id message) h = refl
not-token (event.Aborted id code) h = refl
not-token (event.Failed code peer) h = refl
not-token (event.Renewed token) h = absurd (h token refl)

the-token : (t : ClientTold) → is_renewed t ≡ true → (token : ℕ) × (t ≡ Renewed token)
the-token (Agreed ack) h = absurd cc
the-token (Opened channel token) h = absurd cc
the-token (Answered id octets) h = absurd cc
the-token (GaveUp id code) h = absurd cc
the-token (Renewed token) h = (token, refl)

-- ---- why it is not asked

-- the reasons of a channel on which no renewal is pending
abbrev asked-reasons : Bool → Bool → Option AskFault
asked-reasons many used = first_reason ((ask_fault.TooManyTokens, many) ∷ (ask_fault.Exhausted, used) ∷ [])

-- and those of a client
abbrev site-reasons : Bool → Bool → Option ClientFault
site-reasons many used = first_reason ((fault.TooManyTokens, many) ∷ (fault.Exhausted, used) ∷ [])

not-some : {A : Type 0} (o : Option A) → listed o ≡ [] → is_some o ≡ false
not-some None h = refl
not-some (Some x) h = absurd cc

judging-in : (limits : Limits) (p : Phase) (before : Received) (asked : List Asking) → InPhase limits p before asked → (IsNotOpen p → ⊥)
    → pending_renewals (opened_ids before.openings) asked ≡ []
    → renew_refusal p ≡ asked-reasons (nat_le most_tokens (length (held_tokens before))) (nat_le no_id (next_id asked))
judging-in limits phase.Waiting before asked h some none = absurd (some tt)
judging-in limits (phase.Agreed a) before asked h some none = absurd (some tt)
judging-in limits (phase.Open t) before asked h some none =
    ap (λ (b : Bool).
    first_reason ((ask_fault.RenewPending, b) ∷ (ask_fault.TooManyTokens, nat_le most_tokens (length t.tokens.items))
    ∷ (ask_fault.Exhausted, nat_le no_id t.next) ∷ [])) (not-some t.renewal (h.renewal_is ∙ none))
    ∙ (ap (λ (ns : List ℕ). asked-reasons (nat_le most_tokens (length ns)) (nat_le no_id t.next)) h.tokens_are
    ∙ ap (λ (n : ℕ). asked-reasons (nat_le most_tokens (length (held_tokens before))) (nat_le no_id n)) h.next_is)
judging-in limits phase.Done before asked h some none = absurd (some tt)

-- why the channel refuses, by where the client stands
channel-refuses : (x : ClientChannel) (s : ClientPlace) → StandsAt x s → IsIdle x s
    → renewal_refused x ≡ asked-reasons (nat_le most_tokens (length (held_tokens s.before))) (nat_le no_id (id_at s))
channel-refuses x s at idle = judging-in (client_limits x) (phase_of x) s.before (asked_in s.asks) (phase-there x s at) idle.opened idle.renewals_answered

newest-in : (limits : Limits) (p : Phase) (before : Received) (asked : List Asking) → InPhase limits p before asked → (IsNotOpen p → ⊥)
    → (k : ℕ) × (latest (held_tokens before) ≡ Some k)
newest-in limits phase.Waiting before asked h some = absurd (some tt)
newest-in limits (phase.Agreed a) before asked h some = absurd (some tt)
newest-in limits (phase.Open t) before asked h some = (t.newest, h.newest_is)
newest-in limits phase.Done before asked h some = absurd (some tt)

-- a further token that was told last is the newest
newest-at : (x : ClientChannel) (s : ClientPlace) (at : StandsAt x s) → (HasNoChannel x → ⊥) → (told : List ClientTold) (token : ℕ)
    → ClientGoesTelling x s.asks s.octets told (Renewed token) → latest (held_tokens s.before) ≡ Some token
newest-at x s at opened told token g =
    let found = newest-in (client_limits x) (phase_of x) (received at.goes.frames) (asked_in s.asks) at.goes.stands.phase_is opened in
    let frames : at.goes.frames ≡ g.frames ++ g.frame ∷ [] =
    (stands_once x s.asks s.octets at.goes.frames (g.frames ++ g.frame ∷ []) at.goes.rest [] at.goes.stands g.stands).0 in
    let same : found.0 ≡ token = newest-renewed g.frames g.frame token found.0 g.tells
    (ap (λ (fs : List Frame). latest (held_tokens (received fs))) (sym frames) ∙ found.1) in
    ap (λ (b : Received). latest (held_tokens b)) (sym at.before_is) ∙ (found.1 ∙ ap (λ (k : ℕ). Some k) same)

nothing-refused : (many used : Bool) → asked-reasons many used ≡ None → site-reasons many used ≡ None
nothing-refused true used h = absurd cc
nothing-refused false true h = absurd cc
nothing-refused false false h = refl

abbrev Either : AskFault → Option AskFault → Type 0
Either f reason = (reason ≡ Some f) ⊎ ((f ≡ ask_fault.OutOfMemory) × (reason ≡ None))

either-for : (f : AskFault) (reason : Option AskFault) → IsAskFaultFor reason f → Either f reason
either-for ask_fault.NotOpen reason h = inl h
either-for ask_fault.TooManyPending reason h = inl h
either-for ask_fault.RenewPending reason h = inl h
either-for ask_fault.TooManyTokens reason h = inl h
either-for ask_fault.Exhausted reason h = inl h
either-for ask_fault.RequestTooLarge reason h = inl h
either-for ask_fault.OutOfMemory reason h = inr (refl, h)

same-fault : (f g : AskFault) → ◌≡◌ {A = Option AskFault} (Some f) (Some g) → f ≡ g
same-fault f g e = cc

module _ (A : Type 0) (s : ClientPlace) (moment : DateTime) (new : ClientChannel) where
  abbrev Refuses : Option ClientFault → AskFault → Type 0
  Refuses reason f = (refused_by {A = A} (Err (of_renew_fault f)) ≡ reason) × RenewsAt {A = A} s moment new [] [] (Err (of_renew_fault f))

  refuses-by : (many used : Bool) (f : AskFault) → Either f (asked-reasons many used) → Refuses (site-reasons many used) f
  refuses-by true used f (inl e) = subst (λ (g : AskFault). Refuses (Some fault.TooManyTokens) g) (same-fault ask_fault.TooManyTokens f e) (refl, (refl, refl))
  refuses-by false true f (inl e) = subst (λ (g : AskFault). Refuses (Some fault.Exhausted) g) (same-fault ask_fault.Exhausted f e) (refl, (refl, refl))
  refuses-by false false f (inl e) = absurd cc
  refuses-by true used f (inr e) = absurd cc
  refuses-by false true f (inr e) = absurd cc
  refuses-by false false f (inr e) = subst (λ (g : AskFault). Refuses None g) (sym e.0) (refl, inl (refl, refl))

  refuses-at : (x : ClientChannel) → StandsAt x s → IsIdle x s → (f : AskFault) → IsAskFaultFor (renewal_refused x) f → Refuses (renewal_refusal s) f
  refuses-at x at idle f h =
      refuses-by (nat_le most_tokens (length (held_tokens s.before))) (nat_le no_id (id_at s)) f
      (either-for f (asked-reasons (nat_le most_tokens (length (held_tokens s.before))) (nat_le no_id (id_at s)))
      (subst (λ (r : Option AskFault). IsAskFaultFor r f) (channel-refuses x s at idle) h))

-- a refusal does not stop what is read
refusal-stops : (A : Type 0) (f : AskFault) (x : Connection) (t : Option Traffic) → StopsByTraffic {A = A} most_reads most_reads [] x t (Err (of_renew_fault f))
refusal-stops A ask_fault.NotOpen x t = tt
refusal-stops A ask_fault.TooManyPending x t = tt
refusal-stops A ask_fault.RenewPending x t = tt
refusal-stops A ask_fault.TooManyTokens x t = tt
refusal-stops A ask_fault.Exhausted x t = tt
refusal-stops A ask_fault.RequestTooLarge x t = tt
refusal-stops A ask_fault.OutOfMemory x t = tt

-- it was not asked
pub renews-refused : {A : Type 0} (moment : DateTime) (x y : Connection) (t : Option Traffic) (f : AskFault) → y ≡ x
    → IsAskFaultFor (renewal_refused (channel_of_connection x)) f
    → ((s : ClientPlace) → StandsAt (channel_of_connection x) s → IsIdle (channel_of_connection x) s) → Renews {A = A} moment x y t t (Err (of_renew_fault f))
renews-refused {A} moment x y t f same h idle = record {
  sent = [];
  moves = moves-writing x y [] t t (ap untaken_of same) (carried-nothing t);
  same = record {
    limits = ap (λ (z : Connection). client_limits (channel_of_connection z)) (sym same);
    url = ap (λ (z : Connection). (channel_of_connection z).address.url)
        (sym same);
  };
  judged = λ s at. (refuses-at A s moment (channel_of_connection y) (channel_of_connection x) at (idle s at) f h).0;
  answers = λ s at. (refuses-at A s moment (channel_of_connection y) (channel_of_connection x) at (idle s at) f h).1;
  stops = refusal-stops A f y t;
}

-- ---- what is asked

-- a renewal was asked: what was refused, what is sent, where the channel then stands
pub record Asks (moment : DateTime) (old new : ClientChannel) (id : ℕ) (out : List ℕ) : Type 0 where
  pub refused : renewal_refused old ≡ None
  pub sends : SendsRenewal old (client_next old) moment id out (client_next new)
  pub stands : (asks : List Placed) (octets : List ℕ) (frames : List Frame) (rest : List ℕ) → ClientStands old asks octets frames rest
      → ClientStands new (asks ++ (length octets, Renewal id) ∷ []) octets frames rest
  pub same : SameClient old new

-- the same, where what is sent is named in another way
pub asks-as : (moment : DateTime) (old new : ClientChannel) (id : ℕ) (out sent : List ℕ) → sent ≡ out → Asks moment old new id out → Asks moment old new id sent
asks-as moment old new id out sent same h = subst (λ (o : List ℕ). Asks moment old new id o) (sym same) h

asking-in : (limits : Limits) (p : Phase) (before : Received) (asked : List Asking) (number : ℕ) (moment : DateTime) (id : ℕ) (out : List ℕ) (next : ℕ)
    → InPhase limits p before asked → IsRenewal p number moment id out next
    → (id ≡ next_id asked) × (out ≡ renewal_by (lane_behind before) number (next_id asked) moment) × (next ≡ next_number number)
asking-in limits phase.Waiting before asked number moment id out next h c = absurd c
asking-in limits (phase.Agreed a) before asked number moment id out next h c = absurd c
asking-in limits (phase.Open t) before asked number moment id out next h c = (
  c.id_is ∙ h.next_is,
  c.out_is
      ∙ (ap (λ (n : ℕ). frame_octets (renewal_frame t.channel number n moment)) (c.id_is ∙ h.next_is)
      ∙ ap (λ (l : Option Lane). renewal_by l number (next_id asked) moment) (sym (lane-talks limits t before asked h))),
  c.next_is,
)
asking-in limits phase.Done before asked number moment id out next h c = absurd c

module _ (moment : DateTime) (x y : ClientChannel) (id : ℕ) (out : List ℕ) (asked : Asks moment x y id out) (s : ClientPlace) (at : StandsAt x s) where
  abbrev asking : (id ≡ id_at s) × (out ≡ renewal_by (lane_behind (received at.goes.frames)) (client_next x) (id_at s) moment)
      × (client_next y ≡ next_number (client_next x))
  asking = asking-in (client_limits x) (phase_of x) (received at.goes.frames) (asked_in s.asks) (client_next x) moment id out
      (client_next y) at.goes.stands.phase_is asked.sends

  pub out-is : out ≡ renewal_at s moment
  out-is =
      asking.1
      ∙ (ap (λ (b : Received). renewal_by (lane_behind b) (client_next x) (id_at s) moment) at.before_is
      ∙ ap (λ (n : ℕ). renewal_by (lane_behind s.before) n (id_at s) moment) at.number_is)

  pub next-is : client_next y ≡ next_number s.number
  next-is = asking.2 ∙ ap next_number at.number_is

  pub goes-asked : ClientGoes y (asks_renewed s) s.octets s.told
  goes-asked = record {
    frames = at.goes.frames;
    rest = at.goes.rest;
    stands = subst (λ (n : ℕ). ClientStands y (s.asks ++ (length s.octets, Renewal n) ∷ []) s.octets at.goes.frames at.goes.rest) asking.0
        (asked.stands s.asks s.octets at.goes.frames at.goes.rest at.goes.stands);
    told_is = at.goes.told_is;
  }

  pub none-refused : IsIdle x s → renewal_refusal s ≡ None
  none-refused idle =
      nothing-refused (nat_le most_tokens (length (held_tokens s.before))) (nat_le no_id (id_at s)) (sym (channel-refuses x s at idle) ∙ asked.refused)

-- ---- one more renewal, and one more token

settled-more : (s : ClientPlace) (heard : List ClientTold) (token : ℕ) (before : Received) (octets : List ℕ) (number : ℕ) → IsSettled s
    → IsSettled (record { asks = asks_renewed s; octets = octets; before = before; told = s.told ++ (heard ++ Renewed token ∷ []); number = number })
settled-more s heard token before octets number h =
    let asked : length (renewals (asked_in (asks_renewed s))) ≡ length (renewals (asked_in s.asks)) + 1 =
    ap (λ (asked : List Asking). length (renewals asked)) (asked_in-push s.asks (length s.octets, Renewal (id_at s)))
    ∙ (ap length (renewals-push (asked_in s.asks) (Renewal (id_at s))) ∙ length-append (renewals (asked_in s.asks)) (id_at s ∷ [])) in
    let told = tokens-append s.told (heard ++ Renewed token ∷ []) in
    let more = tokens-append heard (Renewed token ∷ []) in
    let few : length (renewals (asked_in s.asks)) ≤ tokens-told s.told = h.renewed in
    record {
      opened = any-left is_opened s.told (heard ++ Renewed token ∷ []) h.opened;
      answered = told-renewed (s.told ++ (heard ++ Renewed token ∷ [])) s.asks (length s.octets) (id_at s)
          (told-longer s.told (heard ++ Renewed token ∷ []) (calls (asked_in s.asks)) h.answered);
      renewed = omega (arith, asked, told, more, few);
    }

-- ---- what comes of it

module _ (moment : DateTime) (x mid new : Connection) (id : ℕ) (out : List ℕ) (asked : Asks moment (channel_of_connection x) (channel_of_connection mid) id out)
    (untaken : untaken_of mid ≡ untaken_of x) (a b c : Option Traffic)
    (stands : StandsSettled (channel_of_connection x)) (idle : (s : ClientPlace) → StandsAt (channel_of_connection x) s
    → IsIdle (channel_of_connection x) s) where
  -- the OPN was not written whole
  pub renews-unwritten : {A : Type 0} → new ≡ mid → 0 < length out → IfTrafficKnown (WritesFront out) a c → Renews {A = A} moment x new a c (Err fault.Write)
  renews-unwritten same some h =
      let front = sends-part out a c some h in
      record {
        sent = front.0;
        moves = moves-writing x new front.0 a c (ap untaken_of same ∙ untaken) front.2;
        same = subst (λ (z : Connection). SameClient (channel_of_connection x) (channel_of_connection z)) (sym same) asked.same;
        judged = λ s at. sym (none-refused moment (channel_of_connection x) (channel_of_connection mid) id out asked s at (idle s at));
        answers = λ s at. (subst (IsPart front.0) (out-is moment (channel_of_connection x) (channel_of_connection mid) id out asked s at) front.1, refl);
        stops = tt;
      }

  module _ (goes_on : GoesOnBehind) (left : ℕ) (w : IfTrafficKnown (Carries [] out) a b) where
    abbrev sent-from : MovesConnection mid new [] b c → MovesConnection x new out a c
    sent-from m = let n : MovesConnection mid new out a c = sent-first mid new out a b c w m in moves-from x mid new out out a a c c untaken n n.carried

    same-behind : KeepsClient mid new → SameClient (channel_of_connection x) (channel_of_connection new)
    same-behind k = record { limits = asked.same.limits ∙ k.same.limits; url = asked.same.url ∙ k.same.url }

    -- where a further token came
    module _ (taken : List ℕ) (k : KeepsClient mid new) (s : ClientPlace) (at : StandsAt (channel_of_connection x) s)
        (u : GoesUntil is_renewed (channel_of_connection new) (asks_renewed s) (s.octets ++ taken) s.told) where
      token-told : (token : ℕ) × (u.last ≡ Renewed token)
      token-told = the-token u.last u.is_wanted

      tells-token : ClientGoesTelling (channel_of_connection new) (asks_renewed s) (s.octets ++ taken) (s.told ++ u.heard) (Renewed token-told.0)
      tells-token = subst (λ (e : ClientTold). ClientGoesTelling (channel_of_connection new) (asks_renewed s) (s.octets ++ taken) (s.told ++ u.heard) e)
          token-told.1
          u.tells

      goes-behind : ClientGoes (channel_of_connection new) (asks_renewed s) (s.octets ++ taken) (s.told ++ (u.heard ++ Renewed token-told.0 ∷ []))
      goes-behind =
          subst (λ (all : List ClientTold). ClientGoes (channel_of_connection new) (asks_renewed s) (s.octets ++ taken) all)
          (append_assoc s.told u.heard (Renewed token-told.0 ∷ []))
          (goes_on (channel_of_connection new) (asks_renewed s) (s.octets ++ taken) (s.told ++ u.heard) (Renewed token-told.0) tells-token)

      abbrev behind : ClientPlace
      behind = record {
        asks = asks_renewed s;
        octets = s.octets ++ taken;
        before = received goes-behind.frames;
        told = s.told ++ (u.heard ++ Renewed token-told.0 ∷ []);
        number = next_number s.number;
      }

      at-behind : StandsAt (channel_of_connection new) behind
      at-behind = record {
        goes = goes-behind;
        before_is = refl;
        number_is = k.next
            ∙ next-is moment (channel_of_connection x) (channel_of_connection mid) id out asked s at;
      }

      settled-behind : IsSettled s → IsSettled behind
      settled-behind settled = settled-more s u.heard token-told.0 (received goes-behind.frames) (s.octets ++ taken) (next_number s.number) settled

      renewed-behind : (HasNoChannel (channel_of_connection new) → ⊥) → IsRenewed (channel_of_connection new) s behind taken
      renewed-behind opened = record {
        at = at-behind;
        asks = refl;
        octets = refl;
        number = refl;
        heard = u.heard;
        token = token-told.0;
        none_before = u.none;
        tells = tells-token;
        told = refl;
        newest = newest-at (channel_of_connection new) behind at-behind opened (s.told ++ u.heard) token-told.0 tells-token;
        settled = settled-behind;
      }

    pub renews-last : (r : Result (Unit {0}) ClientFault) → Waits is_renewed any_done mid new b c most_reads left r → Renews moment x new a c r
    renews-last (Ok done) h = record {
      sent = out;
      moves = sent-from h.moves;
      same = same-behind h.keeps;
      judged = λ s at. sym (none-refused moment (channel_of_connection x) (channel_of_connection mid) id out asked s at (idle s at));
      answers = λ s at. (
        out-is moment (channel_of_connection x) (channel_of_connection mid) id out asked s at,
        (behind h.moves.taken h.keeps s at (until s at), renewed-behind h.moves.taken h.keeps s at (until s at) opened),
      );
      stops = omega arith;
    }
      where
        until : (s : ClientPlace) → StandsAt (channel_of_connection x) s
            → GoesUntil is_renewed (channel_of_connection new) (asks_renewed s) (s.octets ++ h.moves.taken) s.told
        until s at = (h.answers (asks_renewed s) s.octets s.told (goes-asked moment (channel_of_connection x) (channel_of_connection mid) id out asked s at)).0

        opened : HasNoChannel (channel_of_connection new) → ⊥
        opened n = ∥∥₁_elim stands ⊥_prop (λ (w : (s : ClientPlace) × StandsAt (channel_of_connection x) s × IsSettled s).
            is-open (channel_of_connection new) (behind h.moves.taken h.keeps w.0 w.1 (until w.0 w.1)) (at-behind h.moves.taken h.keeps w.0 w.1 (until w.0 w.1))
            (settled-behind h.moves.taken h.keeps w.0 w.1 (until w.0 w.1) w.2) n)
    renews-last (Err f) h = record {
      sent = out;
      moves = sent-from h.moves;
      same = same-behind h.keeps;
      judged = λ s at.
          unrefused f s h.moves.taken
          (h.answers (asks_renewed s) s.octets s.told (goes-asked moment (channel_of_connection x) (channel_of_connection mid) id out asked s at))
          ∙ sym (none-refused moment (channel_of_connection x) (channel_of_connection mid) id out asked s at (idle s at));
      answers = λ s at.
          by f s h.moves.taken (out-is moment (channel_of_connection x) (channel_of_connection mid) id out asked s at)
          (h.answers (asks_renewed s) s.octets s.told (goes-asked moment (channel_of_connection x) (channel_of_connection mid) id out asked s at));
      stops = stops f h.stops;
    }
      where
        unrefused : (y : ClientFault) (s : ClientPlace) (taken : List ℕ)
            → WaitsAfter is_renewed any_done (Err y) (channel_of_connection new) (asks_renewed s) (s.octets ++ taken) s.told
            → refused_by {A = Unit {0}} (Err y) ≡ None
        unrefused fault.Read s taken k = refl
        unrefused fault.Ended s taken k = refl
        unrefused fault.TooLong s taken k = refl
        unrefused (fault.Peer code) s taken k = refl
        unrefused (fault.Refused code) s taken k = refl
        unrefused fault.OutOfMemory s taken k = refl
        unrefused fault.Write s taken k = refl
        unrefused fault.UnknownResponse s taken k = refl
        unrefused (fault.Service code) s taken k = refl
        unrefused fault.TooLarge s taken k = refl
        unrefused fault.NotWritable s taken k = refl
        unrefused fault.Exhausted s taken k = absurd k
        unrefused fault.TooManyTokens s taken k = absurd k
        unrefused fault.Closed s taken k = refl

        by : (y : ClientFault) (s : ClientPlace) (taken : List ℕ) → out ≡ renewal_at s moment
            → WaitsAfter is_renewed any_done (Err y) (channel_of_connection new) (asks_renewed s) (s.octets ++ taken) s.told
            → RenewsAt {A = Unit {0}} s moment (channel_of_connection new) out taken (Err y)
        by fault.Read s taken e k = (e, k)
        by fault.Ended s taken e k = (e, k)
        by fault.TooLong s taken e k = (e, k)
        by (fault.Peer code) s taken e k = (e, k)
        by (fault.Refused code) s taken e k = (e, k)
        by fault.OutOfMemory s taken e k = inr (e, k)
        by fault.Write s taken e k = absurd k
        by fault.UnknownResponse s taken e k = absurd k
        by (fault.Service code) s taken e k = absurd k
        by fault.TooLarge s taken e k = absurd k
        by fault.NotWritable s taken e k = absurd k
        by fault.Exhausted s taken e k = absurd k
        by fault.TooManyTokens s taken e k = absurd k
        by fault.Closed s taken e k = absurd k

        stops : (y : ClientFault) → StopsByTraffic {A = Unit {0}} most_reads left h.moves.got new c (Err y)
            → StopsByTraffic {A = Unit {0}} most_reads most_reads h.moves.got new c (Err y)
        stops fault.TooLong k = k
        stops fault.Ended k = k
        stops fault.Read k = k
        stops fault.Write k = tt
        stops (fault.Peer code) k = tt
        stops (fault.Refused code) k = tt
        stops fault.UnknownResponse k = tt
        stops (fault.Service code) k = tt
        stops fault.TooLarge k = tt
        stops fault.NotWritable k = tt
        stops fault.Exhausted k = tt
        stops fault.TooManyTokens k = tt
        stops fault.Closed k = tt
        stops fault.OutOfMemory k = tt

-- what is met while a token is waited for is no refusal
pub heard-none : {A : Type 0} (r : Result A ClientFault) → IfErr r (λ f. is_hearing_fault f ≡ true) → IsRefusal r → ⊥
heard-none (Ok done) h k = k
heard-none (Err fault.TooManyTokens) h k = absurd cc
heard-none (Err fault.Exhausted) h k = absurd cc
heard-none (Err (fault.Peer code)) h k = k
heard-none (Err (fault.Refused code)) h k = k
heard-none (Err fault.OutOfMemory) h k = k
heard-none (Err fault.Closed) h k = k
heard-none (Err fault.Read) h k = k
heard-none (Err fault.Write) h k = k
heard-none (Err fault.Ended) h k = k
heard-none (Err fault.UnknownResponse) h k = k
heard-none (Err (fault.Service code)) h k = k
heard-none (Err fault.TooLarge) h k = k
heard-none (Err fault.NotWritable) h k = k
heard-none (Err fault.TooLong) h k = k

-- ---- a client that may be called

none-asked : length (renewals (asked_in [])) ≡ 0
unfolding renewals asked_in
none-asked = refl

none-called : (told : List ClientTold) → AreTold told (calls (asked_in []))
unfolding calls asked_in
none-called told = tt

pub opened-settled : GoesOnBehind → (x : ClientChannel) (octets : List ℕ) → IsOpened x octets → (s : ClientPlace) × (s.octets ≡ octets) × (s.asks ≡ [])
    × StandsAt x s × IsSettled s
opened-settled goes_on x octets h =
    let goes = goes_on x [] octets (Agreed h.ack ∷ []) (Opened h.channel h.token) h.tells in (
      record { asks = []; octets = octets; before = received goes.frames; told = Agreed h.ack ∷ Opened h.channel h.token ∷ []; number = client_next x },
      refl,
      refl,
      record { goes = goes; before_is = refl; number_is = refl },
      record { opened = refl; answered = none-called (Agreed h.ack ∷ Opened h.channel h.token ∷ []); renewed = let none = none-asked in omega (arith, none) },
    )
