-- The lines of `ua serve`, one connection after the other.
use Rattle.std.proofs.Common.{◌≡◌, ◌<◌, ◌^◌, ◌⊎◌, inl, inr, ℕ, suc, ◌+◌, Bool, true, List, [], ◌∷◌, ◌++◌, length, Option, Some, None}
use Rattle.std.proofs.Common.{Result, Ok, Err, IsErrAnd, IfErr, OnOk, ap, sym, subst, ◌∙◌, append_assoc, length-append, refl, arith}
use Rattle.std.proofs.lemmas.List.{append-nil}
use Rattle.std.proofs.KnownBytes.{Appends-nil, Appends-trans}
use Rattle.std.specs.Io.KnownBytes.{Appends}
use Rattle.std.specs.Prelude.{⊤}
use Rattle.std.specs.List.{AllByRecursion}
use Rattle.ua_services.proofs.Words.{local_url_fits, name_fits, server_uri_fits}
use Rattle.ua_server.specs.Endpoint.{IsEndpointEncodable}
use Rattle.ua_server.specs.Happening.{Leads}
use Rattle.ua_server.specs.declared.serve_fault.ServeFault.{ServeFault}
use Rattle.ua_server.specs.declared.step.End.{End}
use Rattle.ua_server.specs.declared.watch.AnsweredRequest.{AnsweredRequest}
use Rattle.ua_report.specs.Reasons.{StopsWriting, is_starved}
use Rattle.ua_report.specs.declared.output.Stop.{Stop}
use Rattle.ua_report.specs.declared.output.Stop.TheVariants as stop
use Rattle.ua_serving.specs.declared.serve.Halt.{Halt}
use Rattle.ua_serving.specs.declared.serve.Halt.TheVariants.{Memory, Output}
use Rattle.ua_serving.specs.declared.serve.RequestLines.{RequestLines}
use Rattle.ua_serving.specs.Served.{Connection, HasServed, HasServedSome, HasTold, IsConnection, IsConnectionLine, Prints}
use Rattle.ua_serving.specs.Served.{PrintsUnlessHalted, PrintsRequest, SaysOutcome, ServesOne, connection_line, connection_lines}
use Rattle.ua_serving.specs.Served.{connection_text, endpoint_on, listening_line, no_memory_text, request_line}

-- one more of which it holds
all_then : {X : Type 0} (P : X → Type 0) (xs : List X) (x : X) → AllByRecursion P xs → P x → AllByRecursion P (xs ++ x ∷ [])
all_then P [] x all is = (is, tt)
all_then P (y ∷ ys) x all is = (all.0, all_then P ys x all.1 is)

-- the lines of one connection more stand behind those before
lines_then : (first number : ℕ) (before : List Connection) (c : Connection) → number ≡ first + length before
    → connection_lines first (before ++ c ∷ []) ≡ connection_lines first before ++ connection_text number c
lines_then first number [] c is =
    let same : first ≡ number = omega arith in
    append-nil (connection_text first c) ∙ ap (λ n. connection_text n c) same
lines_then first number (d ∷ before) c is =
    ap (λ (t : List ℕ). connection_text first d ++ t) (lines_then (suc first) number before c (omega arith))
    ∙ sym (append_assoc (connection_text first d) (connection_lines (suc first) before) (connection_text number c))

-- no connection yet
pub none_served : (requests goes_on : Bool) (port : ℕ) (old new : Option (List ℕ)) → Appends old new (listening_line port)
    → HasServed requests goes_on port 0 old new
none_served requests goes_on port old new added = record {
  served = [];
  each = tt;
  count = refl;
  added = subst (λ t. Appends old new t) (sym (append-nil (listening_line port))) added;
}

-- one connection more
pub one_served : (requests goes_on : Bool) (port number more count : ℕ) (old mid new : Option (List ℕ)) → HasServed requests goes_on port number old mid
    → ServesOne requests goes_on more mid new
    → more ≡ number + 1 → count ≡ number + 1 → HasServed requests goes_on port count old new
one_served requests goes_on port number more count old mid new all one next counts =
    let counted = all.count in
    let behind = lines_then 1 more all.served one.connection (omega (arith, counted, next)) in
    let lines = append_assoc (listening_line port) (connection_lines 1 all.served) (connection_text more one.connection)
    ∙ ap (λ (t : List ℕ). listening_line port ++ t) (sym behind) in
    let long = length-append all.served (one.connection ∷ []) in
    record {
      served = all.served ++ one.connection ∷ [];
      each = all_then (IsConnection requests goes_on) all.served one.connection all.each one.is;
      count = omega (arith, counted, counts, long);
      added = subst (λ t. Appends old new t) lines (Appends-trans old mid new _ _ all.added one.added);
    }

-- an error that is passed on is the same
pub stops_at : {T : Type 0} (P : Stop → Type 0) (r : Result T Stop) (stop : Stop) → IsErrAnd r (λ e. e ≡ stop) → P stop → IfErr r P
stops_at P (Ok x) stop h p = absurd h
stops_at P (Err e) stop h p = subst P (sym h) p

-- what holds at any stop
pub at_any_stop : {T : Type 0} (P : Stop → Type 0) (r : Result T Stop) → ((stop : Stop) → P stop) → IfErr r P
at_any_stop P (Ok x) all = tt
at_any_stop P (Err e) all = all e

-- what holds at any end that is none
pub at_any_ok : {T E P : Type 0} (r : Result T E) → P → OnOk r P
at_any_ok (Ok x) p = p
at_any_ok (Err e) p = tt

-- what a stop behind some connections leaves
pub some_served : (requests goes_on : Bool) (port number more connections : ℕ) (old mid new : Option (List ℕ)) → HasServed requests goes_on port number old mid
    → number < connections
    → HasTold requests more mid new → more ≡ number + 1 → HasServedSome requests goes_on port connections old new
some_served requests goes_on port number more connections old mid new all fewer told next = record {
  served = number;
  fewer = fewer;
  between = mid;
  lines = all;
  next = subst (λ n. HasTold requests n mid new) next told;
}

-- what the program says of itself can be written
pub own_fits : (port : ℕ) → port < 2 ^ 16 → IsEndpointEncodable (endpoint_on port)
own_fits port small = record { url = local_url_fits port small; application_uri = server_uri_fits; name = name_fits }

-- the line of a connection that was served, and added to a writer behind the lines of its requests
pub one_said : (requests goes_on : Bool) (number : ℕ) (line shown : List ℕ) (old mid new : Option (List ℕ)) → HasTold requests number old mid
    → IsConnectionLine number line
    → shown ≡ line → Appends mid new shown → ServesOne requests goes_on number old new
one_said requests goes_on number line shown old mid new told is same added = record {
  connection = record { told = told.told; outcome = is.text };
  is = record { is = inl is.is; wanted = told.wanted };
  added = Appends-trans old mid new _ _ told.added (subst (λ w. Appends mid new w) (same ∙ is.line_is) added);
}

-- the line of a connection at which memory was refused, behind the lines of its requests
pub memory_said : (requests goes_on : Bool) (number : ℕ) (old mid new : Option (List ℕ)) → HasTold requests number old mid → goes_on ≡ true
    → Appends mid new (connection_line number no_memory_text)
    → ServesOne requests goes_on number old new
memory_said requests goes_on number old mid new told on added = record {
  connection = record { told = told.told; outcome = no_memory_text };
  is = record { is = inr (on, refl); wanted = told.wanted };
  added = Appends-trans old mid new _ _ told.added added;
}

-- what is left where memory was refused: the writer did not fail
pub starved_left : {P : Type 0} (why : Stop) → is_starved why ≡ true → StopsWriting why ⊎ P → P
starved_left (stop.Output error) is (inl output) = absurd cc
starved_left (stop.Fault fault) is (inl output) = absurd output
starved_left (stop.Because fault reason) is (inl output) = absurd output
starved_left why is (inr left) = left

-- what stops a connection, or the server, leaves what it left
pub outlived_left : {O : Type 0} (contents : O → Option (List ℕ)) (requests : Bool) (number : ℕ) (old : Option (List ℕ)) (mid new : O) (first why : Stop)
    → StopsWriting first ⊎ HasTold requests number old (contents mid) → StopsWriting why ⊎ ((why ≡ first) × (new ≡ mid))
    → StopsWriting why ⊎ HasTold requests number old (contents new)
outlived_left contents requests number old mid new first why left (inl output) = inl output
outlived_left {O} contents requests number old mid new first why left (inr same) =
    subst (λ (o : O). StopsWriting why ⊎ HasTold requests number old (contents o)) (sym same.1)
    (subst (λ (w : Stop). StopsWriting w ⊎ HasTold requests number old (contents mid)) (sym same.0) left)

-- the line of a connection that ended so
pub line_said : (number : ℕ) (outcome : Result End ServeFault) (line : List ℕ) → SaysOutcome number outcome line → IsConnectionLine number line
line_said number outcome line said = record { text = said.text; is = record { outcome = outcome; text_is = said.text_is }; line_is = said.line_is }

-- ---- the lines of requests

-- no line yet
pub none_told : (requests : Bool) (number : ℕ) (old new : Option (List ℕ)) → new ≡ old → HasTold requests number old new
none_told requests number old new same = record { told = []; wanted = λ _. refl; added = subst (λ w. Appends old w []) (sym same) (Appends-nil old) }

-- the line of one request in front
told_first : (number : ℕ) (r : AnsweredRequest) (old mid new : Option (List ℕ)) → Appends old mid (request_line number r) → HasTold true number mid new
    → HasTold true number old new
told_first number r old mid new added rest = record {
  told = r ∷ rest.told;
  wanted = λ e. cc;
  added = Appends-trans old mid new _ _ added rest.added;
}

-- what the lines of some requests come to
abbrev pub ComesTo : Option Halt → ℕ → Option (List ℕ) → Option (List ℕ) → Type 0
ComesTo None number old new = HasTold true number old new
ComesTo (Some Memory) number old new = HasTold true number old new
ComesTo (Some (Output e)) number old new = ⊤

comes_first : (h : Option Halt) (number : ℕ) (r : AnsweredRequest) (old mid new : Option (List ℕ)) → Appends old mid (request_line number r)
    → ComesTo h number mid new → ComesTo h number old new
comes_first None number r old mid new added rest = told_first number r old mid new added rest
comes_first (Some Memory) number r old mid new added rest = told_first number r old mid new added rest
comes_first (Some (Output e)) number r old mid new added rest = tt

module _ {O : Type 0} (contents : O → Option (List ℕ)) where
  abbrev Goes : RequestLines O → List AnsweredRequest → RequestLines O → Type 0
  Goes p rs q = Leads (PrintsRequest contents) p rs q

  keeps_writer : (p q : RequestLines O) (rs : List AnsweredRequest) → Goes p rs q → q.out.ghost_name ≡ p.out.ghost_name
  keeps_writer p q [] led = ap (λ (x : RequestLines O). x.out.ghost_name) (sym led)
  keeps_writer p q (r ∷ rs) led = keeps_writer led.0 q rs led.2 ∙ led.1.same_writer

  -- once a line could not be printed none more is
  halted : (h : Halt) (p q : RequestLines O) (rs : List AnsweredRequest) → p.halt ≡ Some h → Goes p rs q
      → (q.halt ≡ Some h) × (contents q.out.now ≡ contents p.out.now)
  halted h p q [] is led = (ap (λ (x : RequestLines O). x.halt) (sym led) ∙ is, ap (λ (x : RequestLines O). contents x.out.now) (sym led))
  halted h p q (r ∷ rs) is led =
      let mid = led.0 in
      let kept = subst (λ x. PrintsUnlessHalted x mid.halt (request_line p.number r) (contents p.out.now) (contents mid.out.now)) is led.1.printed in
      let rest = halted h mid q rs kept.0 led.2 in
      (rest.0, rest.1 ∙ kept.1)

  -- what comes behind the first line, where the rest follows
  comes_behind : (h : Option Halt) (r : AnsweredRequest) (p mid q : RequestLines O) (rs : List AnsweredRequest) → mid.halt ≡ h → mid.number ≡ p.number
      → Prints h (request_line p.number r) (contents p.out.now) (contents mid.out.now) → Goes mid rs q
      → (mid.halt ≡ None → ComesTo q.halt mid.number (contents mid.out.now) (contents q.out.now))
      → ComesTo q.halt p.number (contents p.out.now) (contents q.out.now)
  comes_behind None r p mid q rs is number added led rest =
      comes_first q.halt p.number r _ _ _ added (subst (λ n. ComesTo q.halt n (contents mid.out.now) (contents q.out.now)) number (rest is))
  comes_behind (Some Memory) r p mid q rs is number same led rest =
      let end = halted Memory mid q rs is led in
      subst (λ h. ComesTo h p.number (contents p.out.now) (contents q.out.now)) (sym end.0) (none_told true p.number _ _ (end.1 ∙ same))
  comes_behind (Some (Output e)) r p mid q rs is number any led rest =
      let end = halted (Output e) mid q rs is led in
      subst (λ h. ComesTo h p.number (contents p.out.now) (contents q.out.now)) (sym end.0) tt

  comes : (p q : RequestLines O) (rs : List AnsweredRequest) → p.halt ≡ None → Goes p rs q → ComesTo q.halt p.number (contents p.out.now) (contents q.out.now)
  comes p q [] is led =
      let halts : q.halt ≡ None = ap (λ (x : RequestLines O). x.halt) (sym led) ∙ is in
      let same : contents q.out.now ≡ contents p.out.now = ap (λ (x : RequestLines O). contents x.out.now) (sym led) in
      subst (λ h. ComesTo h p.number (contents p.out.now) (contents q.out.now)) (sym halts) (none_told true p.number _ _ same)
  comes p q (r ∷ rs) is led =
      let mid = led.0 in
      let printed = subst (λ x. PrintsUnlessHalted x mid.halt (request_line p.number r) (contents p.out.now) (contents mid.out.now)) is led.1.printed in
      comes_behind mid.halt r p mid q rs refl led.1.same_number printed led.2 (λ none. comes mid q rs none led.2)

  -- the lines that were printed, where w is what the lent writer ends as
  pub lines_told : (p q : RequestLines O) (w : O) → (rs : List AnsweredRequest) × Goes p rs q → p.halt ≡ None
      → (p.out.ghost_name ≡ q.out.ghost_name → w ≡ q.out.now)
      → ComesTo q.halt p.number (contents p.out.now) (contents w)
  lines_told p q w led none back =
      let same = back (sym (keeps_writer p q led.0 led.1)) in
      subst (λ x. ComesTo q.halt p.number (contents p.out.now) (contents x)) (sym same) (comes p q led.0 none led.1)

-- where the output did not fail
pub told_by : (h : Option Halt) (number : ℕ) (old new : Option (List ℕ)) → ComesTo h number old new → (h ≡ None) ⊎ (h ≡ Some Memory)
    → HasTold true number old new
told_by h number old new comes (inl is) = subst (λ x. ComesTo x number old new) is comes
told_by h number old new comes (inr is) = subst (λ x. ComesTo x number old new) is comes
