-- Which items a step stored, by what its bytes told.
use Rattle.std.proofs.Common.{◌≡◌, ℕ, List, [], ◌∷◌, ◌++◌, take, Bool, Option, None, Some, refl, sym, ap, ◌∙◌, append_assoc, append-nil}
use Rattle.std.proofs.lemmas.Bool.{eq-eqb}
use Rattle.std.proofs.lemmas.List.{append_cancel_left}
use Rattle.std.specs.Prelude.{cond}
use Rattle.ua_builtin.specs.declared.date_time.DateTime.{DateTime}
use Rattle.ua_frame.proofs.Unique.{unique}
use Rattle.ua_frame.specs.Run.{Going, Over, Stopped, events}
use Rattle.ua_frame.specs.declared.frame.Frame.{Frame}
use Rattle.ua_channel.specs.ServerStands.{ClosedAt, Goes, RefusedAt, rules_of}
use Rattle.ua_channel.specs.ServerTold.{Closed, Told}
use Rattle.ua_channel.specs.declared.server.ServerChannel.{ServerChannel}
use Rattle.ua_structures.specs.declared.attribute.WriteValue.{WriteValue}
use Rattle.ua_server.specs.Now.{NowBy}
use Rattle.ua_server.specs.Sharing.{SharedEvent, AmongBy, at_moment, told_by}
use Rattle.ua_server.specs.State.{State}
use Rattle.ua_server.specs.Stepping.{StepStops, given_up}
use Rattle.ua_server.specs.Storing.{StoresBy, stored_at, stored_first}
use Rattle.ua_server.specs.declared.session.Session.{Session}
use Rattle.ua_server.specs.declared.step.End.{End}
use Rattle.ua_server.specs.declared.step.End.TheVariants as ending
use Rattle.ua_concurrent.specs.Acts.{own_id, stored_in}

-- what one connection's frames tell at a time
pub told_at_moment : (k : ℕ) (moment : DateTime) (told : List Told) → told_by k (at_moment k moment told) ≡ told
told_at_moment k moment [] = refl
told_at_moment k moment (t ∷ told) =
    let rest = told_by k (at_moment k moment told) in
    ap (λ (b : Bool). cond b (t ∷ rest) rest) (eq-eqb k k refl) ∙ ap (λ (ts : List Told). t ∷ ts) (told_at_moment k moment told)

-- ---- bytes tell one thing

goes_one : (x : ServerChannel) (octets : List ℕ) (a b : List Told) → Goes x octets a → Goes x octets b → a ≡ b
goes_one x octets a b g h =
    sym g.told_is
    ∙ (ap (λ (fs : List Frame). events (rules_of x) fs)
    (unique (rules_of x) octets g.frames h.frames g.rest h.rest Going Going g.stands.run h.stands.run).frames ∙ h.told_is)

closed_one : (x : ServerChannel) (octets : List ℕ) (a b : List Told) → ClosedAt x octets a → ClosedAt x octets b → a ≡ b
closed_one x octets a b g h =
    sym g.told_is
    ∙ (ap (λ (fs : List Frame). events (rules_of x) fs) (unique (rules_of x) octets g.frames h.frames [] [] Over Over g.run h.run).frames ∙ h.told_is)

refused_one : (x : ServerChannel) (octets : List ℕ) (a b : List Told) (code : ℕ) → RefusedAt x octets a code → RefusedAt x octets b code → a ≡ b
refused_one x octets a b code g h =
    sym g.told_is
    ∙ (ap (λ (fs : List Frame). events (rules_of x) fs)
    (unique (rules_of x) octets g.frames h.frames g.rest h.rest (Stopped code) (Stopped code) g.run h.run).frames ∙ h.told_is)

-- ---- what is stored

-- a message that is given up stores nothing
stored_behind : (s : State) (quiet : List ℕ) (more : List Told) → stored_in s (given_up quiet ++ more) ≡ stored_in s more
stored_behind s [] more = refl
stored_behind s (id ∷ quiet) more = stored_behind s quiet more

stored_one : (s : State) (new : ServerChannel) (octets piece : List ℕ) (n : ℕ) (out : List ℕ) (before more : List Told)
    → StepStops new octets piece n out before more → stored_first s more ≡ stored_in s more
stored_one s new octets piece n out before [] stops = refl
stored_one s new octets piece n out before (t ∷ []) stops = sym (append-nil (stored_at s t))
stored_one s new octets piece n out before (t ∷ (u ∷ more)) stops = absurd stops

module _ (k : ℕ) (moment : DateTime) (piece : List ℕ) (n : ℕ) (out : List ℕ) (old new : ServerChannel) (session : Option Session) (octets : List ℕ)
    (mid : List SharedEvent) (first changed now mine later seen : State) (items : List WriteValue) (said : List Told) (same : seen ≡ mine)
    (told_both : (k : ℕ) (a b : List SharedEvent) → told_by k (a ++ b) ≡ told_by k a ++ told_by k b) where
  -- what was told is what was said
  said_is : (quiet : List ℕ) (more : List Told) → told_by k (mid ++ at_moment k moment said) ≡ (told_by k mid ++ given_up quiet) ++ more
      → said ≡ given_up quiet ++ more
  said_is quiet more e = append_cancel_left (told_by k mid) said (given_up quiet ++ more)
      (ap (λ (ts : List Told). told_by k mid ++ ts) (sym (told_at_moment k moment said)) ∙ sym (told_both k mid (at_moment k moment said)) ∙ e
      ∙ append_assoc (told_by k mid) (given_up quiet) more)

  pub stored_is : (end : Option End)
      → AmongBy end own_id k new session (octets ++ take n piece) out mid (at_moment k moment said) first changed now
      → NowBy old moment piece end n out new octets (told_by k mid) mine later
      → StoresBy piece end n out items new octets (told_by k mid) mine → items ≡ stored_in seen said
  stored_is None a w s =
      let told : said ≡ given_up s.0.quiet ++ s.0.more = said_is s.0.quiet s.0.more
      (goes_one new (octets ++ take n piece) _ _ a.0.goes s.0.goes) in
      s.1 ∙ stored_one mine new octets piece n out (told_by k mid ++ given_up s.0.quiet) s.0.more s.0.stops
      ∙ sym (stored_behind mine s.0.quiet s.0.more) ∙ ap (λ (ts : List Told). stored_in mine ts) (sym told)
      ∙ ap (λ (st : State). stored_in st said) (sym same)
  stored_is (Some ending.Closed) a w s =
      let told : said ≡ given_up w.0.quiet ++ Closed ∷ [] = said_is w.0.quiet (Closed ∷ [])
      (closed_one new (octets ++ take n piece) _ _ a.0 w.0.closed) in
      s ∙ sym (stored_behind seen w.0.quiet (Closed ∷ [])) ∙ ap (λ (ts : List Told). stored_in seen ts) (sym told)
  stored_is (Some (ending.Refused code)) a w s =
      let told : said ≡ given_up w.0.quiet ++ [] = said_is w.0.quiet []
      (refused_one new (octets ++ take n piece) _ _ code.code a.0 w.0.refused ∙ sym (append-nil (told_by k mid ++ given_up w.0.quiet))) in
      s ∙ sym (stored_behind seen w.0.quiet []) ∙ ap (λ (ts : List Told). stored_in seen ts) (sym told)
  stored_is (Some ending.NoClose) a w s = absurd a
  stored_is (Some ending.Cut) a w s = absurd a
