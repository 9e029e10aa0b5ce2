-- What is told of replies, one at a time.
use Rattle.std.proofs.Common.{◌≡◌, ◌≢◌, ℕ, Bool, true, false, ◌||◌, zero, suc, ◌+◌, ◌<◌, ◌≤◌, List, [], ◌∷◌, ◌++◌, Option, Some, None, Result, Ok}
use Rattle.std.proofs.Common.{Err, length, get_or, drop, map, refl, sym, ◌∙◌, ap, subst, inl, inr, arith, append-nil, append_assoc, drop-cons}
use Rattle.std.specs.List.{list_any, slice_get}
use Rattle.std.proofs.lemmas.List.{drop_all}
use Rattle.ua_builtin.specs.declared.node_id.NodeId.{NodeId}
use Rattle.ua_builtin.specs.declared.status_code.StatusCode.{StatusCode}
use Rattle.ua_client.specs.declared.reply.Reply.{Reply}
use Rattle.ua_report.specs.LoopFaults.{of_line_answer}
use Rattle.ua_program.specs.ScriptPrinted.{AddsAll, AddsTexts, AddsTold, IsPlainTextOf, IsTextOf, IsToldText, ToldOfScript, answer, said}
use Rattle.ua_program.specs.ScriptPrinted.{asked_behind, asking_step, asked_for, told_fault, told_text, is_bad_reply}
use Rattle.ua_program.specs.ScriptPrinted.{is_bad_told, read_told, replies_told, reply_told, text_of, unless_failed, write_told}
use Rattle.ua_report.specs.declared.loop_fault.LoopFault.{LoopFault}
use Rattle.ua_report.specs.declared.loop_fault.LoopFault.TheVariants.{UnknownResponse}
use Rattle.ua_services.specs.declared.response.Response.{Response}
use Rattle.ua_services.specs.declared.response.Response.TheVariants as response
use Rattle.ua_answers.specs.Answers.{read_line, write_line, write_lines}
use Rattle.ua_answers.specs.PlainAnswers.{AreReads, IsPlainRead}
use Rattle.ua_answers.specs.PlainReplies.{HaveLines}
use Rattle.ua_answers.specs.Replies.{AreAnswers, Leaves, NoAnswers, fault_in, statuses_in, values_in}
use Rattle.ua_answers.specs.Styles.{plain}
use Rattle.ua_answers.specs.declared.style.LineStyle.{LineStyle}
use Rattle.ua_answers.specs.declared.fault.AnswerFault.{AnswerFault}
use Rattle.ua_answers.specs.declared.fault.AnswerFault.TheVariants as answered
use Rattle.ua_answers.specs.declared.script.ScriptLine.{ScriptLine}
use Rattle.ua_answers.specs.declared.script.Step.{Step}
use Rattle.ua_answers.specs.declared.script.Step.TheVariants.{Read, Write, Renew}
use Rattle.ua_variant.specs.declared.values.DataValue.{DataValue}

-- ---- a response without answers

other_read : (names : Bool) (node : NodeId) (results : Option (List DataValue)) → ((each : List DataValue) → results ≡ Some each → length each ≢ 1)
    → read_told names node results ≡ Err UnknownResponse
other_read names node None h = refl
other_read names node (Some []) h = refl
other_read names node (Some (v ∷ [])) h = absurd (h (v ∷ []) refl refl)
other_read names node (Some (v ∷ (w ∷ ws))) h = refl

other_write : (names : Bool) (node : NodeId) (results : Option (List StatusCode)) → ((each : List StatusCode) → results ≡ Some each → length each ≢ 1)
    → write_told names node results ≡ Err UnknownResponse
other_write names node None h = refl
other_write names node (Some []) h = refl
other_write names node (Some (v ∷ [])) h = absurd (h (v ∷ []) refl refl)
other_write names node (Some (v ∷ (w ∷ ws))) h = refl

pub read_failed : (people names : Bool) (node : NodeId) (r : Response) (f : AnswerFault) (had have : List ℕ) → NoAnswers (values_in r) 1 r f → Leaves had have f
    → AddsTold people names (unless_failed (fault_in r) (read_told names node (values_in r))) (Err (of_line_answer f)) had have
read_failed people names node r (answered.Service code) had have none kept = inr (ap (λ o. unless_failed o (read_told names node (values_in r))) none, kept)
read_failed people names node r answered.Unknown had have none kept = inr (
  ap (λ o. unless_failed o (read_told names node (values_in r))) none.0
      ∙ other_read names node (values_in r) none.1,
  kept,
)
read_failed people names node r answered.OutOfMemory had have none kept = inl refl

pub write_failed : (people names : Bool) (node : NodeId) (r : Response) (f : AnswerFault) (had have : List ℕ) → NoAnswers (statuses_in r) 1 r f
    → Leaves had have f
    → AddsTold people names (unless_failed (fault_in r) (write_told names node (statuses_in r))) (Err (of_line_answer f)) had have
write_failed people names node r (answered.Service code) had have none kept = inr (ap (λ o. unless_failed o (write_told names node (statuses_in r))) none, kept)
write_failed people names node r answered.Unknown had have none kept = inr (
  ap (λ o. unless_failed o (write_told names node (statuses_in r))) none.0
      ∙ other_write names node (statuses_in r) none.1,
  kept,
)
write_failed people names node r answered.OutOfMemory had have none kept = inl refl

-- ---- a response with an answer

values_alone : (r : Response) (each : List DataValue) → values_in r ≡ Some each → fault_in r ≡ None
values_alone (response.Read m) each e = refl
values_alone other each e = absurd cc

statuses_alone : (r : Response) (each : List StatusCode) → statuses_in r ≡ Some each → fault_in r ≡ None
statuses_alone (response.Write m) each e = refl
statuses_alone other each e = absurd cc

-- the line of one answer
alone : (people names : Bool) (node : NodeId) (v : DataValue) (shown : List ℕ)
    → AreReads (record { lines = plain names; plain = people }) (node ∷ []) (v ∷ []) shown → IsToldText people names (answer node v) shown
alone true names node v shown h = subst (λ (t : List ℕ). IsPlainRead (plain names) node v t) (sym (h.2 ∙ ap (λ (t : List ℕ). h.0 ++ t) h.4 ∙ append-nil h.0))
    h.3
alone false names node v shown h = h ∙ append-nil (read_line (plain names) node v)

one_read : (people names : Bool) (node : NodeId) (given : Option (List DataValue)) (each : List DataValue) (shown had have : List ℕ) → given ≡ Some each
    → length each ≡ 1 → have ≡ had ++ shown
    → AreReads (record { lines = plain names; plain = people }) (node ∷ []) each shown → AddsTold people names (read_told names node given) (Ok tt) had have
one_read people names node given [] shown had have g long added are = absurd (omega (arith, long))
one_read people names node given (v ∷ []) shown had have g long added are =
    (answer node v, shown, ap (read_told names node) g, added, alone people names node v shown are)
one_read people names node given (v ∷ (w ∷ ws)) shown had have g long added are = absurd (omega (arith, long))

one_write : (people names : Bool) (node : NodeId) (given : Option (List StatusCode)) (each : List StatusCode) (had have : List ℕ) → given ≡ Some each
    → length each ≡ 1 → have ≡ had ++ write_lines (plain names) (node ∷ []) each
    → AddsTold people names (write_told names node given) (Ok tt) had have
one_write people names node given [] had have g long added = absurd (omega (arith, long))
one_write people names node given (v ∷ []) had have g long added =
    let line = write_line (plain names) node v in
    (said line, line, ap (write_told names node) g, added ∙ ap (λ (t : List ℕ). had ++ t) (append-nil line), refl)
one_write people names node given (v ∷ (w ∷ ws)) had have g long added = absurd (omega (arith, long))

-- the line of the answer to a Read of one node was added
pub read_answered : (people names : Bool) (node : NodeId) (r : Response) (nodes : List NodeId) (lines : LineStyle) (had have : List ℕ) → nodes ≡ node ∷ []
    → lines ≡ plain names
    → HaveLines (values_in r) (length nodes) (AreReads (record { lines = lines; plain = people }) nodes) had have
    → AddsTold people names (unless_failed (fault_in r) (read_told names node (values_in r))) (Ok tt) had have
read_answered people names node r nodes lines had have one is h =
    let g = subst (λ (ns : List NodeId). HaveLines (values_in r) (length ns) (AreReads (record { lines = plain names; plain = people }) ns) had have) one
    (subst (λ (s : LineStyle). HaveLines (values_in r) (length nodes) (AreReads (record { lines = s; plain = people }) nodes) had have) is h) in
    subst (λ o. AddsTold people names (unless_failed o (read_told names node (values_in r))) (Ok tt) had have) (sym (values_alone r g.each g.given))
    (one_read people names node (values_in r) g.each g.lines had have g.given g.many g.added g.are)

-- the line of the answer to a Write to one node was added
pub write_answered : (people names : Bool) (node : NodeId) (r : Response) (nodes : List NodeId) (lines : LineStyle) (had have : List ℕ) → nodes ≡ node ∷ []
    → lines ≡ plain names
    → AreAnswers (statuses_in r) (length nodes) (write_lines lines nodes) had have
    → AddsTold people names (unless_failed (fault_in r) (write_told names node (statuses_in r))) (Ok tt) had have
write_answered people names node r nodes lines had have one is h =
    let g = subst (λ (ns : List NodeId). AreAnswers (statuses_in r) (length ns) (write_lines (plain names) ns) had have) one
    (subst (λ (s : LineStyle). AreAnswers (statuses_in r) (length nodes) (write_lines s nodes) had have) is h) in
    subst (λ o. AddsTold people names (unless_failed o (write_told names node (statuses_in r))) (Ok tt) had have) (sym (statuses_alone r g.each g.given))
    (one_write people names node (statuses_in r) g.each had have g.given g.many g.added)

-- ---- lists of what is told

told_fault-append : (ts us : List (Result ToldOfScript LoopFault)) → told_fault ts ≡ None → told_fault (ts ++ us) ≡ told_fault us
told_fault-append [] us h = refl
told_fault-append (Ok told ∷ ts) us h = told_fault-append ts us h
told_fault-append (Err f ∷ ts) us h = absurd cc

told_fault-front : (ts us : List (Result ToldOfScript LoopFault)) (f : LoopFault) → told_fault ts ≡ Some f → told_fault (ts ++ us) ≡ Some f
told_fault-front [] us f h = absurd cc
told_fault-front (Ok told ∷ ts) us f h = told_fault-front ts us f h
told_fault-front (Err g ∷ ts) us f h = h

text_of-append : (names : Bool) (ts us : List (Result ToldOfScript LoopFault)) → told_fault ts ≡ None
    → text_of names (ts ++ us) ≡ text_of names ts ++ text_of names us
text_of-append names [] us h = refl
text_of-append names (Ok told ∷ ts) us h = ap (λ u. told_text names told ++ u) (text_of-append names ts us h)
    ∙ sym (append_assoc (told_text names told) (text_of names ts) (text_of names us))
text_of-append names (Err f ∷ ts) us h = absurd cc

text_of-front : (names : Bool) (ts us : List (Result ToldOfScript LoopFault)) (f : LoopFault) → told_fault ts ≡ Some f
    → text_of names (ts ++ us) ≡ text_of names ts
text_of-front names [] us f h = absurd cc
text_of-front names (Ok told ∷ ts) us f h = ap (λ u. told_text names told ++ u) (text_of-front names ts us f h)
text_of-front names (Err g ∷ ts) us f h = refl

plain-append : (names : Bool) (ts us : List (Result ToldOfScript LoopFault)) (s t : List ℕ) → told_fault ts ≡ None → IsPlainTextOf names ts s
    → IsPlainTextOf names us t
    → IsPlainTextOf names (ts ++ us) (s ++ t)
plain-append names [] us s t none h k = subst (λ (x : List ℕ). IsPlainTextOf names us (x ++ t)) (sym h) k
plain-append names (Ok told ∷ ts) us s t none h k =
    (h.0, h.1 ++ t, ap (λ (x : List ℕ). x ++ t) h.2 ∙ append_assoc h.0 h.1 t, h.3, plain-append names ts us h.1 t none h.4 k)
plain-append names (Err f ∷ ts) us s t none h k = absurd cc

plain-front : (names : Bool) (ts us : List (Result ToldOfScript LoopFault)) (f : LoopFault) (s : List ℕ) → told_fault ts ≡ Some f → IsPlainTextOf names ts s
    → IsPlainTextOf names (ts ++ us) s
plain-front names [] us f s fault h = absurd cc
plain-front names (Ok told ∷ ts) us f s fault h = (h.0, h.1, h.2, h.3, plain-front names ts us f h.1 fault h.4)
plain-front names (Err g ∷ ts) us f s fault h = h

told-exact : (names : Bool) (line : ToldOfScript) (s : List ℕ) → IsToldText false names line s → s ≡ told_text names line
told-exact names (said t) s h = h
told-exact names (answer node value) s h = h

shown-none : (people names : Bool) → IsTextOf people names [] []
shown-none true names = refl
shown-none false names = refl

shown-fault : (people names : Bool) (f : LoopFault) (ts : List (Result ToldOfScript LoopFault)) → IsTextOf people names (Err f ∷ ts) []
shown-fault true names f ts = refl
shown-fault false names f ts = refl

shown-cons : (people names : Bool) (line : ToldOfScript) (ts : List (Result ToldOfScript LoopFault)) (s t : List ℕ) → IsToldText people names line s
    → IsTextOf people names ts t
    → IsTextOf people names (Ok line ∷ ts) (s ++ t)
shown-cons true names line ts s t one all = (s, t, refl, one, all)
shown-cons false names line ts s t one all = ap (λ (x : List ℕ). x ++ t) (told-exact names line s one) ∙ ap (λ (x : List ℕ). told_text names line ++ x) all

shown-append : (people names : Bool) (ts us : List (Result ToldOfScript LoopFault)) (s t : List ℕ) → told_fault ts ≡ None → IsTextOf people names ts s
    → IsTextOf people names us t → IsTextOf people names (ts ++ us) (s ++ t)
shown-append true names ts us s t none h k = plain-append names ts us s t none h k
shown-append false names ts us s t none h k = ap (λ (x : List ℕ). x ++ t) h ∙ ap (λ (x : List ℕ). text_of names ts ++ x) k
    ∙ sym (text_of-append names ts us none)

shown-front : (people names : Bool) (ts us : List (Result ToldOfScript LoopFault)) (f : LoopFault) (s : List ℕ) → told_fault ts ≡ Some f
    → IsTextOf people names ts s
    → IsTextOf people names (ts ++ us) s
shown-front true names ts us f s fault h = plain-front names ts us f s fault h
shown-front false names ts us f s fault h = h ∙ sym (text_of-front names ts us f fault)

module _ (people names : Bool) where
  texts-cons : (t : Result ToldOfScript LoopFault) (ts : List (Result ToldOfScript LoopFault)) (a b c : List ℕ) → AddsTold people names t (Ok tt) a b
      → AddsTexts people names ts b c → AddsTexts people names (t ∷ ts) a c
  texts-cons t ts a b c one all =
      subst (λ (u : Result ToldOfScript LoopFault). AddsTexts people names (u ∷ ts) a c) (sym one.2)
      (one.1 ++ all.0, all.1 ∙ ap (λ (x : List ℕ). x ++ all.0) one.3 ∙ append_assoc a one.1 all.0, shown-cons people names one.0 ts one.1 all.0 one.4 all.2)

  pub all-cons : (t : Result ToldOfScript LoopFault) (ts : List (Result ToldOfScript LoopFault)) (r : Result (Unit {0}) LoopFault) (a b c : List ℕ)
      → AddsTold people names t (Ok tt) a b → AddsAll people names ts r b c → AddsAll people names (t ∷ ts) r a c
  all-cons t ts (Ok done) a b c one all = (ap (λ u. told_fault (u ∷ ts)) one.2 ∙ all.0, texts-cons t ts a b c one all.1)
  all-cons t ts (Err f) a b c one (inl none) = inl none
  all-cons t ts (Err f) a b c one (inr all) = inr (ap (λ u. told_fault (u ∷ ts)) one.2 ∙ all.0, texts-cons t ts a b c one all.1)

  pub all-fault : (t : Result ToldOfScript LoopFault) (ts : List (Result ToldOfScript LoopFault)) (f : LoopFault) (a b : List ℕ)
      → AddsTold people names t (Err f) a b
      → AddsAll people names (t ∷ ts) (Err f) a b
  all-fault t ts f a b (inl none) = inl none
  all-fault t ts f a b (inr one) = inr (
    ap (λ u. told_fault (u ∷ ts)) one.0,
    subst (λ (u : Result ToldOfScript LoopFault). AddsTexts people names (u ∷ ts) a b) (sym one.0)
        ([], one.1 ∙ sym (append-nil a), shown-fault people names f ts),
  )

  pub all-last : (t : Result ToldOfScript LoopFault) (r : Result (Unit {0}) LoopFault) (a b : List ℕ) → AddsTold people names t r a b
      → AddsAll people names (t ∷ []) r a b
  all-last t (Ok done) a b one = all-cons t [] (Ok done) a b b one (refl, ([], sym (append-nil b), shown-none people names))
  all-last t (Err f) a b one = all-fault t [] f a b one

  texts-append : (ts us : List (Result ToldOfScript LoopFault)) (a b c : List ℕ) → told_fault ts ≡ None → AddsTexts people names ts a b
      → AddsTexts people names us b c
      → AddsTexts people names (ts ++ us) a c
  texts-append ts us a b c none all more = (
    all.0 ++ more.0,
    more.1 ∙ ap (λ (x : List ℕ). x ++ more.0) all.1 ∙ append_assoc a all.0 more.0,
    shown-append people names ts us all.0 more.0 none all.2 more.2,
  )

  pub all-append : (ts us : List (Result ToldOfScript LoopFault)) (r : Result (Unit {0}) LoopFault) (a b c : List ℕ) → AddsAll people names ts (Ok tt) a b
      → AddsAll people names us r b c → AddsAll people names (ts ++ us) r a c
  all-append ts us (Ok done) a b c all more = (told_fault-append ts us all.0 ∙ more.0, texts-append ts us a b c all.0 all.1 more.1)
  all-append ts us (Err f) a b c all (inl none) = inl none
  all-append ts us (Err f) a b c all (inr more) = inr (told_fault-append ts us all.0 ∙ more.0, texts-append ts us a b c all.0 all.1 more.1)

  pub all-front : (ts us : List (Result ToldOfScript LoopFault)) (f : LoopFault) (a b : List ℕ) → AddsAll people names ts (Err f) a b
      → AddsAll people names (ts ++ us) (Err f) a b
  all-front ts us f a b (inl none) = inl none
  all-front ts us f a b (inr all) = inr (told_fault-front ts us f all.0, (all.1.0, all.1.1, shown-front people names ts us f all.1.0 all.0 all.1.2))

-- ---- the reply at a place

-- what is told of the replies from a place on is what is told of the one there, and of those behind it
pub told-drop : (names : Bool) (s : Option Step) (ss : List (Option Step)) (rs : List Reply) (place : ℕ)
    → replies_told names (s ∷ ss) (drop place (map Some rs)) ≡ reply_told names s (slice_get rs place) ∷ replies_told names ss (drop (suc place) (map Some rs))
told-drop names s ss [] zero = refl
told-drop names s ss [] (suc place) = refl
told-drop names s ss (r ∷ rs) zero = refl
told-drop names s ss (r ∷ rs) (suc place) = told-drop names s ss rs place

-- ---- the lines

-- a step that is no renewal asks a request
pub asks : (s : Step) → s ≢ Renew → asking_step s ≡ Some s
asks (Read node range) h = refl
asks (Write node value) h = refl
asks Renew h = absurd (h refl)

-- what is left to tell, behind what was added already
pub record StillAdds (people names : Bool) (told rest : List (Result ToldOfScript LoopFault)) (had have : List ℕ) : Type 0 where
  pub adds : (result : Result (Unit {0}) LoopFault) (new : List ℕ) → AddsAll people names rest result have new → AddsAll people names told result had new

-- behind so many lines, whose replies stand in front of this place
abbrev pub Behind : Bool → Bool → List ScriptLine → List Reply → ℕ → ℕ → List ℕ → List ℕ → Type 0
Behind people names lines replies index place had have =
    StillAdds people names (replies_told names (asked_behind lines) (drop 2 (map Some replies)))
    (replies_told names (asked_behind (drop index lines)) (drop place (map Some replies))) had have

pub behind-none : (people names : Bool) (lines : List ScriptLine) (replies : List Reply) (had : List ℕ) → Behind people names lines replies 0 2 had had
behind-none people names lines replies had = record { adds = λ result new all. all }

module _ (people names : Bool) (lines : List ScriptLine) (replies : List Reply) (index place : ℕ) (had have : List ℕ)
    (so : Behind people names lines replies index place had have) (line : ScriptLine) (less : index < length lines) (is : line ≡ get_or lines index line) where
  next_index : suc index ≡ index + 1
  next_index = omega arith

  next_place : suc place ≡ place + 1
  next_place = omega arith

  lines_at : drop index lines ≡ line ∷ drop (index + 1) lines
  lines_at = drop-cons lines index line less ∙ ap (λ (l : ScriptLine). l ∷ drop (suc index) lines) (sym is) ∙ ap (λ (n : ℕ). line ∷ drop n lines) next_index

  asked_step : asking_step line.step ≡ Some line.step → asked_behind (drop index lines) ≡ Some line.step ∷ asked_behind (drop (index + 1) lines)
  asked_step e = ap asked_behind lines_at ∙ rw e refl

  told_here : asking_step line.step ≡ Some line.step → replies_told names (asked_behind (drop index lines)) (drop place (map Some replies))
      ≡ reply_told names (Some line.step) (slice_get replies place) ∷ replies_told names (asked_behind (drop (index + 1) lines))
      (drop (place + 1) (map Some replies))
  told_here e =
      ap (λ (ss : List (Option Step)). replies_told names ss (drop place (map Some replies))) (asked_step e)
      ∙ told-drop names (Some line.step) (asked_behind (drop (index + 1) lines)) replies place
      ∙ ap (λ (n : ℕ). reply_told names (Some line.step) (slice_get replies place) ∷ replies_told names (asked_behind (drop (index + 1) lines))
      (drop n (map Some replies))) next_place

  -- a request whose answer was added
  pub behind-step : (now : List ℕ) → asking_step line.step ≡ Some line.step
      → AddsTold people names (reply_told names (Some line.step) (slice_get replies place)) (Ok tt) have now
      → Behind people names lines replies (index + 1) (place + 1) had now
  behind-step now e one = record {
    adds = λ result new all. so.adds result new
        (subst (λ (ts : List (Result ToldOfScript LoopFault)). AddsAll people names ts result have new) (sym (told_here e))
        (all-cons people names (reply_told names (Some line.step) (slice_get replies place))
        (replies_told names (asked_behind (drop (index + 1) lines)) (drop (place + 1) (map Some replies))) result have now new one all));
  }

  -- a request whose answer was not
  pub behind-fault : (now : List ℕ) (f : LoopFault) → asking_step line.step ≡ Some line.step
      → AddsTold people names (reply_told names (Some line.step) (slice_get replies place)) (Err f) have now
      → AddsAll people names (replies_told names (asked_behind lines) (drop 2 (map Some replies))) (Err f) had now
  behind-fault now f e one =
      so.adds (Err f) now
      (subst (λ (ts : List (Result ToldOfScript LoopFault)). AddsAll people names ts (Err f) have now) (sym (told_here e))
      (all-fault people names (reply_told names (Some line.step) (slice_get replies place))
      (replies_told names (asked_behind (drop (index + 1) lines)) (drop (place + 1) (map Some replies))) f have now one))

-- all lines, and the reply that ends the session
pub behind-all : (people names : Bool) (lines : List ScriptLine) (replies : List Reply) (index place : ℕ) (had have : List ℕ)
    (result : Result (Unit {0}) LoopFault) → Behind people names lines replies index place had have → length lines ≤ index
    → AddsTold people names (reply_told names None (slice_get replies place)) result have have
    → AddsAll people names (replies_told names (asked_behind lines) (drop 2 (map Some replies))) result had have
behind-all people names lines replies index place had have result so enough one =
    let told : replies_told names (asked_behind (drop index lines)) (drop place (map Some replies)) ≡ reply_told names None (slice_get replies place) ∷ [] =
    ap (λ (ls : List ScriptLine). replies_told names (asked_behind ls) (drop place (map Some replies))) (drop_all index lines enough)
    ∙ told-drop names None [] replies place in
    so.adds result have
    (subst (λ (ts : List (Result ToldOfScript LoopFault)). AddsAll people names ts result have have) (sym told)
    (all-last people names (reply_told names None (slice_get replies place)) result have have one))

-- ---- a whole script

module _ (people names : Bool) (lines : List ScriptLine) (replies : List Reply) (totals had : List ℕ) where
  -- what is told of the first reply, of the second, and of those to the lines and behind them
  abbrev first : Result ToldOfScript LoopFault
  first = reply_told names None (slice_get replies 0)

  abbrev second : Result ToldOfScript LoopFault
  second = reply_told names None (slice_get replies 1)

  abbrev others : List (Result ToldOfScript LoopFault)
  others = replies_told names (asked_behind lines) (drop 2 (map Some replies))

  abbrev whole : List (Result ToldOfScript LoopFault)
  whole = replies_told names (asked_for lines) (map Some replies) ++ Ok (said totals) ∷ []

  whole_is : whole ≡ first ∷ (second ∷ (others ++ Ok (said totals) ∷ []))
  whole_is =
      ap (λ (ts : List (Result ToldOfScript LoopFault)). ts ++ Ok (said totals) ∷ [])
      (told-drop names None (None ∷ asked_behind lines) replies 0
      ∙ ap (λ (ts : List (Result ToldOfScript LoopFault)). first ∷ ts) (told-drop names None (asked_behind lines) replies 1))

  adds_whole : (r : Result (Unit {0}) LoopFault) (new : List ℕ) → AddsAll people names (first ∷ (second ∷ (others ++ Ok (said totals) ∷ []))) r had new
      → AddsAll people names whole r had new
  adds_whole r new all = subst (λ (ts : List (Result ToldOfScript LoopFault)). AddsAll people names ts r had new) (sym whole_is) all

  pub whole-first : (f : LoopFault) → AddsTold people names (reply_told names None (slice_get replies 0)) (Err f) had had
      → AddsAll people names (replies_told names (asked_for lines) (map Some replies) ++ Ok (said totals) ∷ []) (Err f) had had
  whole-first f one = adds_whole (Err f) had (all-fault people names first (second ∷ (others ++ Ok (said totals) ∷ [])) f had had one)

  pub whole-second : (f : LoopFault) → AddsTold people names (reply_told names None (slice_get replies 0)) (Ok tt) had had
      → AddsTold people names (reply_told names None (slice_get replies 1)) (Err f) had had
      → AddsAll people names (replies_told names (asked_for lines) (map Some replies) ++ Ok (said totals) ∷ []) (Err f) had had
  whole-second f one two =
      adds_whole (Err f) had (all-cons people names first (second ∷ (others ++ Ok (said totals) ∷ [])) (Err f) had had had one
      (all-fault people names second (others ++ Ok (said totals) ∷ []) f had had two))

  module _ (one : AddsTold people names (reply_told names None (slice_get replies 0)) (Ok tt) had had)
      (two : AddsTold people names (reply_told names None (slice_get replies 1)) (Ok tt) had had) where
    behind_both : (r : Result (Unit {0}) LoopFault) (new : List ℕ) → AddsAll people names (others ++ Ok (said totals) ∷ []) r had new
        → AddsAll people names whole r had new
    behind_both r new all =
        adds_whole r new (all-cons people names first (second ∷ (others ++ Ok (said totals) ∷ [])) r had had new one
        (all-cons people names second (others ++ Ok (said totals) ∷ []) r had had new two all))

    pub whole-others : (f : LoopFault) (have : List ℕ) → AddsAll people names (replies_told names (asked_behind lines) (drop 2 (map Some replies)))
        (Err f) had have
        → AddsAll people names (replies_told names (asked_for lines) (map Some replies) ++ Ok (said totals) ∷ []) (Err f) had have
    whole-others f have all = behind_both (Err f) have (all-front people names others (Ok (said totals) ∷ []) f had have all)

    pub whole-all : (have now : List ℕ) → AddsAll people names (replies_told names (asked_behind lines) (drop 2 (map Some replies))) (Ok tt) had have
        → now ≡ have ++ totals
        → AddsAll people names (replies_told names (asked_for lines) (map Some replies) ++ Ok (said totals) ∷ []) (Ok tt) had now
    whole-all have now all added =
        behind_both (Ok tt) now
        (all-append people names others (Ok (said totals) ∷ []) (Ok tt) had have now all
        (all-last people names (Ok (said totals)) (Ok tt) have now (said totals, totals, refl, added, refl)))

-- ---- bad codes

pub any_told : (replies : List Reply) → list_any is_bad_reply replies ≡ list_any is_bad_told (map Some replies)
any_told [] = refl
any_told (reply ∷ replies) = ap (λ (b : Bool). is_bad_reply reply || b) (any_told replies)
