-- That a client takes the turns that are accepted, and refuses the first that is not for the reason that is given; but for a renewal that is
-- asked with requests in front of it.
use Rattle.std.proofs.Common.{◌≡◌, ℕ, Bool, true, false, List, [], ◌∷◌, ◌++◌, Option, Some}
use Rattle.std.proofs.Common.{option_map, length, take, nat_le, refl, sym, ◌∙◌, ap, subst, arith, append_assoc}
use Rattle.std.proofs.lemmas.Bool.{leb-false, lt-leb}
use Rattle.std.proofs.lemmas.List.{length-map, take_at}
use Rattle.ua_builtin.specs.Reasons.{first_reason}
use Rattle.ua_builtin.proofs.FirstReasons.{first_reason-map}
use Rattle.ua_frame.specs.After.{AllAfter, AllFrom}
use Rattle.ua_channel.specs.ClientAsks.{most_tokens, no_id}
use Rattle.ua_channel.specs.declared.client.fault.AskFault.TheVariants.{TooManyTokens, Exhausted, RequestTooLarge}
use Rattle.ua_services.specs.declared.request.Request.{Request as Message}
use Rattle.ua_client.specs.declared.fault.ClientFault.{ClientFault}
use Rattle.ua_client.specs.declared.fault.ClientFault.TheVariants as client
use Rattle.ua_loopback.specs.Accepted as judged
use Rattle.ua_exchange.specs.Accepted.{AreAccepted, FirstRefused, IsAccepted, fault_at, tokens_counted, turn_refusal}
use Rattle.ua_exchange.specs.Exchanged.{IsRefusedFor}
use Rattle.ua_exchange.specs.Programs.{exchange_ack}
use Rattle.ua_exchange.specs.Turns.{id_behind, served_turn, served_turns}
use Rattle.ua_exchange.specs.declared.fault.PairFault.{PairFault}
use Rattle.ua_exchange.specs.declared.fault.PairFault.TheVariants.{NotWritable, Request}
use Rattle.ua_exchange.specs.declared.turn.Turn.{Turn}
use Rattle.ua_exchange.specs.declared.turn.Turn.TheVariants.{Ask, Renew}
use Rattle.ua_exchange.specs.inside.Counting.{FirstCrowded, HaveRoom, is_crowded}
use Rattle.ua_exchange.proofs.Counting.{held-within}
use Rattle.ua_exchange.proofs.Lists.{from-front, from-place}
use Rattle.ua_exchange.proofs.Words.{served-push}

-- ---- one turn

-- a client of `ua_loopback` takes a turn behind others, or this is why it does not
abbrev refusal_served : List Turn → Turn → Option ClientFault
refusal_served before t = judged.turn_refusal_under exchange_ack (served_turns before) (served_turn t)

fewer : (before : List Turn) → nat_le most_tokens (tokens_counted before) ≡ false → nat_le most_tokens (judged.tokens_held 1 (served_turns before)) ≡ false
fewer before room =
    let few = leb-false most_tokens (tokens_counted before) room in
    lt-leb most_tokens (judged.tokens_held 1 (served_turns before)) (omega (arith, few, held-within before))

-- where there is room for it, a turn is judged by what counts as held as by what is held
same-judged : (before : List Turn) (t : Turn) → is_crowded before t ≡ false
    → first_reason (judged.turn_reasons_under exchange_ack (tokens_counted before) (id_behind before) (served_turn t)) ≡ refusal_served before t
same-judged before (Ask m) room = refl
same-judged before Renew room =
    ap (λ (b : Bool). first_reason ((client.TooManyTokens, b) ∷ (client.Exhausted, nat_le no_id (id_behind before)) ∷ [])) (room ∙ sym (fewer before room))

refusal-same : (before : List Turn) (t : Turn) → is_crowded before t ≡ false
    → turn_refusal before t ≡ option_map (fault_at (length before)) (refusal_served before t)
refusal-same before t room =
    first_reason-map (fault_at (length before)) (judged.turn_reasons_under exchange_ack (tokens_counted before) (id_behind before) (served_turn t))
    ∙ ap (option_map (fault_at (length before))) (same-judged before t room)

-- ---- turns that are parted

head_is : {A : Type 0} (a b : A) (xs ys : List A) → a ∷ xs ≡ b ∷ ys → a ≡ b
head_is a b xs ys e = cc

tail_is : {A : Type 0} (a b : A) (xs ys : List A) → a ∷ xs ≡ b ∷ ys → xs ≡ ys
tail_is a b xs ys e = cc

both_are : {A : Type 0} (a b : A) (xs ys : List A) → a ≡ b → xs ≡ ys → a ∷ xs ≡ b ∷ ys
both_are a b xs ys p q = cc

record Parted (turns : List Turn) (front : List (Option (List Message))) (one : Option (List Message)) : Type 0 where
  pub before : List Turn
  pub turn : Turn
  pub behind : List Turn
  pub parts : turns ≡ before ++ turn ∷ behind
  pub before_is : served_turns before ≡ front
  pub turn_is : served_turn turn ≡ one

parted : (turns : List Turn) (front : List (Option (List Message))) (one : Option (List Message)) (rest : List (Option (List Message)))
    → served_turns turns ≡ front ++ one ∷ rest → Parted turns front one
parted [] [] one rest e = absurd cc
parted [] (f ∷ front) one rest e = absurd cc
parted (t ∷ ts) [] one rest e =
    record { before = []; turn = t; behind = ts; parts = refl; before_is = refl; turn_is = head_is (served_turn t) one (served_turns ts) rest e }
parted (t ∷ ts) (f ∷ front) one rest e =
    let p = parted ts front one rest (tail_is (served_turn t) f (served_turns ts) (front ++ one ∷ rest) e) in
    record {
      before = t ∷ p.before;
      turn = p.turn;
      behind = p.behind;
      parts = ap (λ (us : List Turn). t ∷ us) p.parts;
      before_is = both_are (served_turn t) f (served_turns p.before) front (head_is (served_turn t) f (served_turns ts) (front ++ one ∷ rest) e) p.before_is;
      turn_is = p.turn_is;
    }

-- ---- room for tokens

room-before : (before behind : List Turn) (t : Turn) → HaveRoom (before ++ t ∷ behind) → HaveRoom before
unfolding AllAfter
room-before before behind t room = from-front (λ (b : List Turn) (u : Turn). is_crowded b u ≡ false) [] before (t ∷ behind) room

room-there : (before behind : List Turn) (t : Turn) → HaveRoom (before ++ t ∷ behind) → is_crowded before t ≡ false
unfolding AllAfter
room-there before behind t room = (from-place (λ (b : List Turn) (u : Turn). is_crowded b u ≡ false) [] before (t ∷ behind) room).0

-- ---- by both

accepted-from : (start turns : List Turn) → AllFrom (judged.IsAcceptedUnder exchange_ack) (served_turns start) (served_turns turns)
    → AllFrom (λ (b : List Turn) (u : Turn). is_crowded b u ≡ false) start turns → AllFrom IsAccepted start turns
accepted-from start [] h room = tt
accepted-from start (t ∷ ts) h room = (
  refusal-same start t room.0 ∙ ap (option_map (fault_at (length start))) h.0,
  accepted-from (start ++ t ∷ []) ts (subst (λ (us : List (Option (List Message))). AllFrom (judged.IsAcceptedUnder exchange_ack) us (served_turns ts))
      (sym (served-push start t)) h.1) room.1,
)

pub accepted-all : (turns : List Turn) → judged.AreAcceptedUnder exchange_ack (served_turns turns) → HaveRoom turns → AreAccepted turns
unfolding AllAfter
accepted-all turns h room = accepted-from [] turns h room

-- the first that is not taken
refused-first : (turns : List Turn) (place : ℕ) (fault : ClientFault) → judged.FirstRefusedUnder exchange_ack (served_turns turns) place fault → HaveRoom turns
    → FirstRefused turns (fault_at place fault)
refused-first turns place fault r room =
    let p = parted turns r.before r.turn r.behind r.parts in
    let whole : HaveRoom (p.before ++ p.turn ∷ p.behind) = subst HaveRoom p.parts room in
    let there : refusal_served p.before p.turn ≡ Some fault =
    ap (λ (ts : List (Option (List Message))). judged.turn_refusal_under exchange_ack ts (served_turn p.turn)) p.before_is
    ∙ (ap (judged.turn_refusal_under exchange_ack r.before) p.turn_is ∙ r.refused) in
    let at : length p.before ≡ place = sym (length-map p.before served_turn) ∙ (ap length p.before_is ∙ r.place_is) in
    record {
      before = p.before;
      turn = p.turn;
      behind = p.behind;
      parts = p.parts;
      accepted = accepted-all p.before (subst (judged.AreAcceptedUnder exchange_ack) (sym p.before_is) r.accepted) (room-before p.before p.behind p.turn whole);
      refused = refusal-same p.before p.turn (room-there p.before p.behind p.turn whole)
          ∙ (ap (option_map (fault_at (length p.before))) there ∙ ap (λ (n : ℕ). Some (fault_at n fault)) at);
    }

-- among the first of more turns
refused-among : (asked more : List Turn) (fault : PairFault) → FirstRefused asked fault → FirstRefused (asked ++ more) fault
refused-among asked more fault r = record {
  before = r.before;
  turn = r.turn;
  behind = r.behind ++ more;
  parts = ap (λ (ts : List Turn). ts ++ more) r.parts ∙ append_assoc r.before (r.turn ∷ r.behind) more;
  accepted = r.accepted;
  refused = r.refused;
}

-- a turn is not taken, or memory was refused
pub refused-for : (asked more : List Turn) (place : ℕ) (fault : ClientFault)
    → (judged.IsTurnFault fault → judged.FirstRefusedUnder exchange_ack (served_turns asked) place fault) → HaveRoom asked
    → IsRefusedFor (asked ++ more) (fault_at place fault)
refused-for asked more place client.NotWritable r room = refused-among asked more (NotWritable place) (refused-first asked place client.NotWritable (r tt) room)
refused-for asked more place client.Exhausted r room = refused-among asked more (Request place Exhausted)
    (refused-first asked place client.Exhausted (r tt) room)
refused-for asked more place client.TooLarge r room = refused-among asked more (Request place RequestTooLarge)
    (refused-first asked place client.TooLarge (r tt) room)
refused-for asked more place client.TooManyTokens r room = refused-among asked more (Request place TooManyTokens)
    (refused-first asked place client.TooManyTokens (r tt) room)
refused-for asked more place (client.Peer code) r room = tt
refused-for asked more place (client.Refused code) r room = tt
refused-for asked more place (client.Service code) r room = tt
refused-for asked more place client.Ended r room = tt
refused-for asked more place client.Read r room = tt
refused-for asked more place client.Write r room = tt
refused-for asked more place client.TooLong r room = tt
refused-for asked more place client.UnknownResponse r room = tt
refused-for asked more place client.OutOfMemory r room = tt
refused-for asked more place client.Closed r room = tt

-- ---- a renewal for which too many tokens are held

first-true : (n : ℕ) (b c : Bool) → b ≡ true → first_reason ((Request n TooManyTokens, b) ∷ (Request n Exhausted, c) ∷ []) ≡ Some (Request n TooManyTokens)
first-true n true c e = refl
first-true n false c e = absurd cc

crowded-refusal : (before : List Turn) (t : Turn) (place : ℕ) → is_crowded before t ≡ true → length before ≡ place
    → turn_refusal before t ≡ Some (Request place TooManyTokens)
crowded-refusal before (Ask m) place e at = absurd cc
crowded-refusal before Renew place e at = first-true (length before) (nat_le most_tokens (tokens_counted before)) (nat_le no_id (id_behind before)) e
    ∙ ap (λ (n : ℕ). Some (Request n TooManyTokens)) at

-- the turns in front of it
pub front-is : (turns : List Turn) (place : ℕ) (f : FirstCrowded turns place) → take place turns ≡ f.before
front-is turns place f = ap (take place) f.parts ∙ take_at f.before (f.turn ∷ f.behind) place f.place_is

pub crowded-refused : (turns : List Turn) (place : ℕ) (f : FirstCrowded turns place) → AreAccepted f.before → FirstRefused turns (Request place TooManyTokens)
crowded-refused turns place f accepted = record {
  before = f.before;
  turn = f.turn;
  behind = f.behind;
  parts = f.parts;
  accepted = accepted;
  refused = crowded-refusal f.before f.turn place f.crowded f.place_is;
}
