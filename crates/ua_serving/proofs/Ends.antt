-- The lines of `ua serve --at-once`, one connection after the other.
use Rattle.std.proofs.Common.{◌≡◌, ◌≤◌, ◌⊎◌, inl, inr, ℕ, suc, Bool, false, List, [], ◌∷◌, Option, None}
use Rattle.std.proofs.Common.{Some, Result, Ok, Err, IsOk, OnOk, refl, sym, ap, subst, ◌∙◌, arith}
use Rattle.std.specs.Prelude.{⊤}
use Rattle.std.specs.Result.{MatchResult}
use Rattle.std.proofs.KnownBytes.{Appends-nil, Appends-trans}
use Rattle.std.specs.Io.KnownBytes.{Appends}
use Rattle.ua_concurrent.specs.Acts.{Acted, Told}
use Rattle.ua_poll.specs.News.{News, Over, Missed, Acts, TellsOfAll, WasToldOf, count_over, notes_of}
use Rattle.ua_poll.specs.declared.serving.PollFault.{PollFault}
use Rattle.ua_server.specs.Happening.{Leads}
use Rattle.ua_server.specs.declared.serve_fault.ServeFault.{ServeFault}
use Rattle.ua_server.specs.declared.step.End.{End}
use Rattle.ua_structures.specs.declared.attribute.WriteValue.{WriteValue}
use Rattle.ua_serving.specs.AtOnce.{ActsBeside, Ended, HasPrintedEnded, HasServedAtOnce, HasServedSomeAtOnce, IsUnwritten, PrintsBy}
use Rattle.ua_serving.specs.AtOnce.{PrintsNews, SaysEnd, SaysOutcomeOf, SaysStored, StopsAtHalt, Wrote, outcome_of}
use Rattle.ua_report.specs.Reasons.{StopsWriting}
use Rattle.ua_serving.specs.Served.{IsSaid, connection_line, listening_line}
use Rattle.ua_serving.specs.declared.at_once.Host.{Host}
use Rattle.ua_serving.specs.declared.at_once.Halt.{Halt}
use Rattle.ua_serving.specs.declared.at_once.Halt.TheVariants as halt
use Rattle.ua_report.specs.declared.output.Stop.{Stop}

-- no line yet
none_ended : (writes : Option Bool) (goes_on : Bool) (old new : Option (List ℕ)) → new ≡ old → HasPrintedEnded writes goes_on 0 old new
none_ended writes goes_on old new same = record { said = []; each = tt; count_is = refl; added = subst (λ w. Appends old w []) (sym same) (Appends-nil old) }

-- a text that says one outcome says an outcome
says_outcome : (goes_on : Bool) (outcome : Result End ServeFault) (text : List ℕ) → SaysOutcomeOf goes_on outcome text → IsSaid goes_on text
says_outcome goes_on outcome text (inl is) = inl (record { outcome = outcome; text_is = is })
says_outcome goes_on outcome text (inr is) = inr is

-- one in front of others
ended_first : (writes : Option Bool) (goes_on : Bool) (number : ℕ) (outcome : Result End ServeFault) (count : ℕ) (old mid new : Option (List ℕ))
    → SaysEnd goes_on number outcome None old mid
    → HasPrintedEnded writes goes_on count mid new → HasPrintedEnded writes goes_on (suc count) old new
ended_first writes goes_on number outcome count old mid new said rest = record {
  said = Ended number said.0 ∷ rest.said;
  each = (says_outcome goes_on outcome said.0 said.1, rest.each);
  count_is = ap suc rest.count_is;
  added = Appends-trans old mid new (connection_line number said.0) _ said.2 rest.added;
}

-- the lines of stored items in front of others
wrote_first : (writes : Option Bool) (goes_on : Bool) (items : List WriteValue) (count : ℕ) (old mid new : Option (List ℕ))
    → SaysStored writes goes_on items None old mid
    → HasPrintedEnded writes goes_on count mid new → HasPrintedEnded writes goes_on count old new
wrote_first None goes_on items count old mid new said rest = subst (λ w. HasPrintedEnded None goes_on count w new) said.1 rest
wrote_first (Some plain) goes_on items count old mid new said rest = record {
  said = Wrote items said.0 ∷ rest.said;
  each = (said.1, rest.each);
  count_is = rest.count_is;
  added = Appends-trans old mid new said.0 _ said.2 rest.added;
}

-- no more than so many
pub record EndedSome (writes : Option Bool) (goes_on : Bool) (most : ℕ) (old new : Option (List ℕ)) : Type 0 where
  pub count : ℕ
  pub fewer : count ≤ most
  pub ended : HasPrintedEnded writes goes_on count old new

none_of : (writes : Option Bool) (goes_on : Bool) (most : ℕ) (old new : Option (List ℕ)) → new ≡ old → EndedSome writes goes_on most old new
none_of writes goes_on most old new same = record { count = 0; fewer = omega arith; ended = none_ended writes goes_on old new same }

-- what the news come to
abbrev pub ComesTo : Option Halt → Option Bool → Bool → ℕ → Option (List ℕ) → Option (List ℕ) → Type 0
ComesTo None writes goes_on count old new = HasPrintedEnded writes goes_on count old new
ComesTo (Some halt.Memory) writes goes_on count old new = EndedSome writes goes_on count old new
ComesTo (Some (halt.Listener error)) writes goes_on count old new = EndedSome writes goes_on count old new
ComesTo (Some (halt.Output error)) writes goes_on count old new = ⊤

some_first : (writes : Option Bool) (goes_on : Bool) (number : ℕ) (outcome : Result End ServeFault) (count : ℕ) (old mid new : Option (List ℕ))
    → SaysEnd goes_on number outcome None old mid
    → EndedSome writes goes_on count mid new → EndedSome writes goes_on (suc count) old new
some_first writes goes_on number outcome count old mid new said rest = record {
  count = suc rest.count;
  fewer = let few = rest.fewer in omega (arith, few);
  ended = ended_first writes goes_on number outcome rest.count old mid new said rest.ended;
}

comes_first : (h : Option Halt) (writes : Option Bool) (goes_on : Bool) (number : ℕ) (outcome : Result End ServeFault) (count : ℕ)
    (old mid new : Option (List ℕ)) → SaysEnd goes_on number outcome None old mid
    → ComesTo h writes goes_on count mid new → ComesTo h writes goes_on (suc count) old new
comes_first None writes goes_on number outcome count old mid new said rest = ended_first writes goes_on number outcome count old mid new said rest
comes_first (Some halt.Memory) writes goes_on number outcome count old mid new said rest = some_first writes goes_on number outcome count old mid new said rest
comes_first (Some (halt.Listener error)) writes goes_on number outcome count old mid new said rest =
    some_first writes goes_on number outcome count old mid new said rest
comes_first (Some (halt.Output error)) writes goes_on number outcome count old mid new said rest = tt

some_wrote : (writes : Option Bool) (goes_on : Bool) (items : List WriteValue) (count : ℕ) (old mid new : Option (List ℕ))
    → SaysStored writes goes_on items None old mid
    → EndedSome writes goes_on count mid new → EndedSome writes goes_on count old new
some_wrote writes goes_on items count old mid new said rest = record {
  count = rest.count;
  fewer = rest.fewer;
  ended = wrote_first writes goes_on items rest.count old mid new said rest.ended;
}

comes_wrote : (h : Option Halt) (writes : Option Bool) (goes_on : Bool) (items : List WriteValue) (count : ℕ) (old mid new : Option (List ℕ))
    → SaysStored writes goes_on items None old mid
    → ComesTo h writes goes_on count mid new → ComesTo h writes goes_on count old new
comes_wrote None writes goes_on items count old mid new said rest = wrote_first writes goes_on items count old mid new said rest
comes_wrote (Some halt.Memory) writes goes_on items count old mid new said rest = some_wrote writes goes_on items count old mid new said rest
comes_wrote (Some (halt.Listener error)) writes goes_on items count old mid new said rest = some_wrote writes goes_on items count old mid new said rest
comes_wrote (Some (halt.Output error)) writes goes_on items count old mid new said rest = tt

-- once no further connection was to be served no line more is
comes_halted : (h : Halt) (writes : Option Bool) (goes_on : Bool) (count : ℕ) (old new : Option (List ℕ)) → new ≡ old
    → ComesTo (Some h) writes goes_on count old new
comes_halted halt.Memory writes goes_on count old new same = none_of writes goes_on count old new same
comes_halted (halt.Listener error) writes goes_on count old new same = none_of writes goes_on count old new same
comes_halted (halt.Output error) writes goes_on count old new same = tt

module _ {R O E : Type 0} (contents : O → Option (List ℕ)) where
  -- one step of the host: what it is told, and what it does
  abbrev pub Steps : Host R O E → News → Host R O E → Type 0
  Steps = notes_of (PrintsNews contents) (ActsBeside contents)

  -- either way the lines went on
  prints : (p q : Host R O E) (n : News) → Steps p n q → PrintsNews contents p n q
  prints p q (Over number outcome) s = s
  prints p q (Missed why) s = s
  prints p q (Acts act) s = s.prints

  abbrev Goes : Host R O E → List News → Host R O E → Type 0
  Goes p news q = Leads (PrintsNews contents) p news q

  pub lines_go : (p q : Host R O E) (news : List News) → Leads Steps p news q → Goes p news q
  lines_go p q [] led = led
  lines_go p q (n ∷ news) led = (led.0, prints p led.0 n led.1, lines_go led.0 q news led.2)

  pub keeps_out : (p q : Host R O E) (news : List News) → Goes p news q → q.out.ghost_name ≡ p.out.ghost_name
  keeps_out p q [] led = ap (λ (x : Host R O E). x.out.ghost_name) (sym led)
  keeps_out p q (n ∷ news) led = keeps_out led.0 q news led.2 ∙ led.1.same_out

  pub keeps_err : (p q : Host R O E) (news : List News) → Goes p news q → q.err.ghost_name ≡ p.err.ghost_name
  keeps_err p q [] led = ap (λ (x : Host R O E). x.err.ghost_name) (sym led)
  keeps_err p q (n ∷ news) led = keeps_err led.0 q news led.2 ∙ led.1.same_err

  pub stays_quiet : (p q : Host R O E) (news : List News) → Goes p news q → p.telling.aloud ≡ false → q.err.now ≡ p.err.now
  stays_quiet p q [] led quiet = ap (λ (x : Host R O E). x.err.now) (sym led)
  stays_quiet p q (n ∷ news) led quiet =
      stays_quiet led.0 q news led.2 (ap (λ t. t.aloud) led.1.same.0 ∙ quiet) ∙ led.1.quiet quiet

  halted : (h : Halt) (p q : Host R O E) (news : List News) → p.halt ≡ Some h → Goes p news q → (q.halt ≡ Some h) × (contents q.out.now ≡ contents p.out.now)
  halted h p q [] is led = (ap (λ (x : Host R O E). x.halt) (sym led) ∙ is, ap (λ (x : Host R O E). contents x.out.now) (sym led))
  halted h p q (n ∷ news) is led =
      let mid = led.0 in
      let kept = by n (subst (λ x. PrintsBy n p.writes p.goes_on x mid.halt (contents p.out.now) (contents mid.out.now)) is led.1.printed) in
      let rest = halted h mid q news kept.0 led.2 in
      (rest.0, rest.1 ∙ kept.1)
    where
      by : (n : News) → PrintsBy n p.writes p.goes_on (Some h) led.0.halt (contents p.out.now) (contents led.0.out.now)
          → (led.0.halt ≡ Some h) × (contents led.0.out.now ≡ contents p.out.now)
      by (Over number outcome) kept = kept
      by (Missed why) kept = kept
      by (Acts (Acted before after moment)) kept = kept
      by (Acts (Told number step items)) kept = kept

  -- what comes with the same terms
  comes_same : (h : Option Halt) (p mid : Host R O E) (count : ℕ) (new : Option (List ℕ)) → mid.goes_on ≡ p.goes_on → mid.writes ≡ p.writes
      → ComesTo h mid.writes mid.goes_on count (contents mid.out.now) new → ComesTo h p.writes p.goes_on count (contents mid.out.now) new
  comes_same h p mid count new same form came =
      subst (λ w. ComesTo h w p.goes_on count (contents mid.out.now) new) form (subst (λ g. ComesTo h mid.writes g count (contents mid.out.now) new) same came)

  -- what comes behind the first news, where the rest follows
  behind : (h : Option Halt) (p mid q : Host R O E) (number : ℕ) (outcome : Result End ServeFault) (count : ℕ) (news : List News) → mid.halt ≡ h
      → mid.goes_on ≡ p.goes_on → mid.writes ≡ p.writes
      → SaysEnd p.goes_on number outcome h (contents p.out.now) (contents mid.out.now) → Goes mid news q
      → (mid.halt ≡ None → ComesTo q.halt mid.writes mid.goes_on count (contents mid.out.now) (contents q.out.now))
      → ComesTo q.halt p.writes p.goes_on (suc count) (contents p.out.now) (contents q.out.now)
  behind None p mid q number outcome count news is same form said led rest =
      comes_first q.halt p.writes p.goes_on number outcome count _ _ _ said (comes_same q.halt p mid count (contents q.out.now) same form (rest is))
  behind (Some halt.Memory) p mid q number outcome count news is same form said led rest =
      let end = halted halt.Memory mid q news is led in
      subst (λ h. ComesTo h p.writes p.goes_on (suc count) (contents p.out.now) (contents q.out.now)) (sym end.0)
      (comes_halted halt.Memory p.writes p.goes_on (suc count) _ _ (end.1 ∙ said.1))
  behind (Some (halt.Output e)) p mid q number outcome count news is same form said led rest =
      let end = halted (halt.Output e) mid q news is led in
      subst (λ h. ComesTo h p.writes p.goes_on (suc count) (contents p.out.now) (contents q.out.now)) (sym end.0) tt
  behind (Some (halt.Listener e)) p mid q number outcome count news is same form said led rest = absurd said

  -- the same behind what a Write stored
  behind_stored : (h : Option Halt) (writes : Option Bool) (p mid q : Host R O E) (items : List WriteValue) (count : ℕ) (news : List News) → p.writes ≡ writes
      → mid.halt ≡ h → mid.goes_on ≡ p.goes_on → mid.writes ≡ p.writes
      → SaysStored writes p.goes_on items h (contents p.out.now) (contents mid.out.now) → Goes mid news q
      → (mid.halt ≡ None → ComesTo q.halt mid.writes mid.goes_on count (contents mid.out.now) (contents q.out.now))
      → ComesTo q.halt p.writes p.goes_on count (contents p.out.now) (contents q.out.now)
  behind_stored None writes p mid q items count news had is same form said led rest =
      comes_wrote q.halt p.writes p.goes_on items count _ _ _ (subst (λ w. SaysStored w p.goes_on items None (contents p.out.now) (contents mid.out.now))
      (sym had) said)
      (comes_same q.halt p mid count (contents q.out.now) same form (rest is))
  behind_stored (Some h) None p mid q items count news had is same form said led rest = let no = said.0 in absurd cc
  behind_stored (Some halt.Memory) (Some plain) p mid q items count news had is same form said led rest =
      let end = halted halt.Memory mid q news is led in
      subst (λ h. ComesTo h p.writes p.goes_on count (contents p.out.now) (contents q.out.now)) (sym end.0)
      (comes_halted halt.Memory p.writes p.goes_on count _ _ (end.1 ∙ said.1))
  behind_stored (Some (halt.Output e)) (Some plain) p mid q items count news had is same form said led rest =
      let end = halted (halt.Output e) mid q news is led in
      subst (λ h. ComesTo h p.writes p.goes_on count (contents p.out.now) (contents q.out.now)) (sym end.0) tt
  behind_stored (Some (halt.Listener e)) (Some plain) p mid q items count news had is same form said led rest = absurd said

  -- the same where nothing is printed
  missed : (h : Option Halt) (p mid q : Host R O E) (count : ℕ) (news : List News) → mid.halt ≡ h → mid.goes_on ≡ p.goes_on → mid.writes ≡ p.writes
      → contents mid.out.now ≡ contents p.out.now → Goes mid news q
      → (mid.halt ≡ None → ComesTo q.halt mid.writes mid.goes_on count (contents mid.out.now) (contents q.out.now))
      → ComesTo q.halt p.writes p.goes_on count (contents p.out.now) (contents q.out.now)
  missed None p mid q count news is same form kept led rest =
      subst (λ w. ComesTo q.halt p.writes p.goes_on count w (contents q.out.now)) kept (comes_same q.halt p mid count (contents q.out.now) same form (rest is))
  missed (Some h) p mid q count news is same form kept led rest =
      let end = halted h mid q news is led in
      subst (λ x. ComesTo x p.writes p.goes_on count (contents p.out.now) (contents q.out.now)) (sym end.0)
      (comes_halted h p.writes p.goes_on count _ _ (end.1 ∙ kept))

  comes : (p q : Host R O E) (news : List News) → p.halt ≡ None → Goes p news q
      → ComesTo q.halt p.writes p.goes_on (count_over news) (contents p.out.now) (contents q.out.now)
  comes p q [] is led =
      let halts : q.halt ≡ None = ap (λ (x : Host R O E). x.halt) (sym led) ∙ is in
      let same : contents q.out.now ≡ contents p.out.now = ap (λ (x : Host R O E). contents x.out.now) (sym led) in
      subst (λ h. ComesTo h p.writes p.goes_on 0 (contents p.out.now) (contents q.out.now)) (sym halts) (none_ended p.writes p.goes_on _ _ same)
  comes p q (Over number outcome ∷ news) is led =
      let mid = led.0 in
      let printed = subst (λ x. PrintsBy (Over number outcome) p.writes p.goes_on x mid.halt (contents p.out.now) (contents mid.out.now)) is led.1.printed in
      behind mid.halt p mid q number (outcome_of outcome) (count_over news) news refl led.1.same.1 led.1.same.2 printed led.2
      (λ none. comes mid q news none led.2)
  comes p q (Missed why ∷ news) is led =
      let mid = led.0 in
      let printed = subst (λ x. PrintsBy (Missed why) p.writes p.goes_on x mid.halt (contents p.out.now) (contents mid.out.now)) is led.1.printed in
      missed mid.halt p mid q (count_over news) news refl led.1.same.1 led.1.same.2 printed.1 led.2 (λ none. comes mid q news none led.2)
  comes p q (Acts (Acted before after moment) ∷ news) is led =
      let mid = led.0 in
      let printed = subst (λ x. PrintsBy (Acts (Acted before after moment)) p.writes p.goes_on x mid.halt (contents p.out.now) (contents mid.out.now)) is
      led.1.printed in
      missed mid.halt p mid q (count_over news) news refl led.1.same.1 led.1.same.2 printed.1 led.2 (λ none. comes mid q news none led.2)
  comes p q (Acts (Told number step items) ∷ news) is led =
      let mid = led.0 in
      let printed = subst (λ x. PrintsBy (Acts (Told number step items)) p.writes p.goes_on x mid.halt (contents p.out.now) (contents mid.out.now)) is
      led.1.printed
      in
      behind_stored mid.halt p.writes p mid q items (count_over news) news refl refl led.1.same.1 led.1.same.2 printed led.2
      (λ none. comes mid q news none led.2)

  -- the lines that were printed, where w is what the lent writer ends as
  pub lines_ended : (p q : Host R O E) (w : O) (count : ℕ) → WasToldOf Steps count p q → p.halt ≡ None → (p.out.ghost_name ≡ q.out.ghost_name → w ≡ q.out.now)
      → ComesTo q.halt p.writes p.goes_on count (contents p.out.now) (contents w)
  lines_ended p q w count told none back =
      let led = lines_go p q told.news told.leads in
      let same = back (sym (keeps_out p q told.news led)) in
      subst (λ x. ComesTo q.halt p.writes p.goes_on count (contents p.out.now) (contents x)) (sym same)
      (subst (λ n. ComesTo q.halt p.writes p.goes_on n (contents p.out.now) (contents q.out.now)) told.count_is (comes p q told.news none led))

  pub err_ended : (p q : Host R O E) (w : E) (count : ℕ) → WasToldOf Steps count p q → (p.err.ghost_name ≡ q.err.ghost_name → w ≡ q.err.now)
      → p.telling.aloud ≡ false
      → w ≡ p.err.now
  err_ended p q w count told back quiet =
      let led = lines_go p q told.news told.leads in
      back (sym (keeps_err p q told.news led)) ∙ stays_quiet p q told.news led quiet

-- all connections were served
pub all_ended : (form writes : Option Bool) (goes_on : Bool) (port connections : ℕ) (h : Option Halt) (old mid new : Option (List ℕ)) → form ≡ writes
    → Appends old mid (listening_line port) → h ≡ None
    → ComesTo h form goes_on connections mid new → HasServedAtOnce writes goes_on port connections old new
all_ended form writes goes_on port connections h old mid new same listening none ended = record {
  between = mid;
  listening = listening;
  ended = subst (λ w. HasPrintedEnded w goes_on connections mid new) same (subst (λ x. ComesTo x form goes_on connections mid new) none ended);
}

-- however the loop ended, no more than these were told of; where it is done, all were
pub told_some : {T E : Type 0} (notes : E → News → E → Type 0) (total : ℕ) (loop : Result T PollFault) (before after : E)
    → TellsOfAll notes total loop before after
    → (count : ℕ) × (count ≤ total) × WasToldOf notes count before after
told_some notes total (Ok value) before after told = (total, omega arith, told)
told_some notes total (Err fault) before after told = told

pub told_all : {T E : Type 0} (notes : E → News → E → Type 0) (total : ℕ) (loop : Result T PollFault) (before after : E) → IsOk loop
    → TellsOfAll notes total loop before after
    → WasToldOf notes total before after
told_all notes total (Ok value) before after done told = told
told_all notes total (Err fault) before after done told = absurd cc

some_of : (writes : Option Bool) (goes_on : Bool) (port count connections : ℕ) (old mid new : Option (List ℕ)) → count ≤ connections
    → Appends old mid (listening_line port)
    → EndedSome writes goes_on count mid new → HasServedSomeAtOnce writes goes_on port connections old new
some_of writes goes_on port count connections old mid new fewer listening ended = record {
  count = ended.count;
  fewer = let few = ended.fewer in omega (arith, few, fewer);
  served = record { between = mid; listening = listening; ended = ended.ended };
}

-- some were served, unless what is printed cannot be written
pub ends_some : {B : Type 0} (writes : Option Bool) (goes_on : Bool) (port count connections : ℕ) (h : Option Halt) (why : Stop) (old mid new : Option (List ℕ))
    → count ≤ connections
    → Appends old mid (listening_line port) → ComesTo h writes goes_on count mid new → StopsAtHalt h why
    → StopsWriting why ⊎ (B ⊎ HasServedSomeAtOnce writes goes_on port connections old new)
ends_some writes goes_on port count connections None why old mid new fewer listening came stops =
    inr (inr (record { count = count; fewer = fewer; served = record { between = mid; listening = listening; ended = came } }))
ends_some writes goes_on port count connections (Some (halt.Output e)) why old mid new fewer listening came stops = inl stops
ends_some writes goes_on port count connections (Some halt.Memory) why old mid new fewer listening came stops =
    inr (inr (some_of writes goes_on port count connections old mid new fewer listening came))
ends_some writes goes_on port count connections (Some (halt.Listener e)) why old mid new fewer listening came stops =
    inr (inr (some_of writes goes_on port count connections old mid new fewer listening came))

pub ends_some_as : {B : Type 0} (form writes : Option Bool) (goes_on : Bool) (port count connections : ℕ) (h : Option Halt) (why : Stop)
    (old mid new : Option (List ℕ)) → form ≡ writes → count ≤ connections
    → Appends old mid (listening_line port) → ComesTo h form goes_on count mid new → StopsAtHalt h why
    → StopsWriting why ⊎ (B ⊎ HasServedSomeAtOnce writes goes_on port connections old new)
ends_some_as form writes goes_on port count connections h why old mid new same fewer listening came stops =
    ends_some writes goes_on port count connections h why old mid new fewer listening (subst (λ w. ComesTo h w goes_on count mid new) same came) stops

-- the line of a connection was printed, or could not be
pub line_ended : {T E : Type 0} (goes_on : Bool) (number : ℕ) (outcome : Result End ServeFault) (text line : List ℕ) (written : Result T E) (h : Option Halt)
    (old new : Option (List ℕ))
    → SaysOutcomeOf goes_on outcome text → line ≡ connection_line number text → OnOk written (Appends old new line)
    → MatchResult written (λ _. h ≡ None) (λ _. IsUnwritten h)
    → SaysEnd goes_on number outcome h old new
line_ended goes_on number outcome text line (Ok x) h old new is same added halts =
    subst (λ k. SaysEnd goes_on number outcome k old new) (sym halts) (text, is, subst (λ l. Appends old new l) same added)
line_ended goes_on number outcome text line (Err e) (Some (halt.Output f)) old new is same added halts = tt
line_ended goes_on number outcome text line (Err e) (Some halt.Memory) old new is same added halts = absurd halts
line_ended goes_on number outcome text line (Err e) (Some (halt.Listener f)) old new is same added halts = absurd halts
line_ended goes_on number outcome text line (Err e) None old new is same added halts = absurd halts
