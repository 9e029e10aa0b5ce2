-- The lines of both sides of a record, one mark after the other.
use Rattle.std.proofs.Common.{◌≡◌, ℕ, suc, ◌+◌, ◌-◌, ◌≤◌, ◌<◌, List, [], ◌∷◌, ◌++◌, length, take, drop, map, min, get_or, Option}
use Rattle.std.proofs.Common.{refl, sym, ◌∙◌, ap, subst, arith, append-nil, append_assoc, drop-cons, take-add}
use Rattle.std.specs.Prelude.{codes}
use Rattle.std.specs.Borrow.{Bor}
use Rattle.std.specs.List.{flat_map}
use Rattle.std.proofs.lemmas.List.{drop_all, get_or_default, map-append, take_all}
use Rattle.ua_judge.specs.declared.mark.Mark.{Mark}
use Rattle.ua_pair.specs.Dissected.{AreTold}
use Rattle.ua_pair.specs.Dissecting.{EndsLines, StandsBehind, TellsMore}
use Rattle.ua_pair.specs.declared.options.DissectOptions.{DissectOptions}
use Rattle.ua_fields.specs.declared.side.Side.TheVariants.{Client, Server}
use Rattle.ua_program.specs.Judges.{AreLinesBetween, PrintsTurn, PrintsTurns, lines_behind, printed_options, printed_to}
use Rattle.ua_program.specs.Recorded.{IsRecord}
use Rattle.ua_program.specs.Printing.{AddsLastLines, AddsTurns, ArePrinted, EndsSideBehind, PrinterStands, PrintersStand, PrintsMark, PrintsSide}
use Rattle.ua_words.specs.declared.arguments.JudgeRecord.{JudgeRecord}
use Rattle.ua_program.specs.declared.judge.Printer.{Printer}
use Rattle.ua_program.specs.declared.judge.Printers.{Printers}

-- ---- lines behind a front

-- one line behind a front
abbrev pub line_behind : List ℕ → List ℕ → List ℕ
line_behind front line = front ++ (line ++ codes "\n")

-- with one line more
pub behind_more : (front : List ℕ) (xs : List (List ℕ)) (x : List ℕ)
    → flat_map (line_behind front) (xs ++ x ∷ []) ≡ flat_map (line_behind front) xs ++ line_behind front x
behind_more front [] x = append-nil (line_behind front x)
behind_more front (y ∷ xs) x =
    ap (λ (t : List ℕ). line_behind front y ++ t) (behind_more front xs x)
    ∙ sym (append_assoc (line_behind front y) (flat_map (line_behind front) xs) (line_behind front x))

pub behind_kept : (front out now new : List ℕ) (xs : List (Bor (List ℕ))) (x : Bor (List ℕ))
    → now ≡ out ++ flat_map (line_behind front) (map (λ (line : Bor (List ℕ)). line.now) xs) → new ≡ now ++ line_behind front x.now
    → new ≡ out ++ flat_map (line_behind front) (map (λ (line : Bor (List ℕ)). line.now) (xs ++ x ∷ []))
behind_kept front out now new xs x before added =
    let ls : List (List ℕ) = map (λ (line : Bor (List ℕ)). line.now) xs in
    added ∙ (ap (λ (t : List ℕ). t ++ line_behind front x.now) before
    ∙ (append_assoc out (flat_map (line_behind front) ls) (line_behind front x.now)
    ∙ ap (λ (t : List ℕ). out ++ t) (sym (behind_more front ls x.now)
    ∙ ap (flat_map (line_behind front)) (sym (map-append (λ (line : Bor (List ℕ)). line.now) xs (x ∷ []))))))

-- ---- a side

-- the bytes up to a place, and those behind them up to another
pub piece_parts : (octets : List ℕ) (at end : ℕ) → at < end → end ≤ length octets → take at octets ++ take (end - at) (drop at octets) ≡ take end octets
piece_parts octets at end less le =
    let count : at + (end - at) ≡ end = omega (arith, less) in
    sym (take-add at (end - at) octets) ∙ ap (λ (n : ℕ). take n octets) count

within_max : (at place : ℕ) (octets : List ℕ) → min place (length octets) ≤ at → at ≡ printed_to at octets place
within_max at place octets le = omega (arith, le)

max_end : (at place end : ℕ) (octets : List ℕ) → end ≡ min place (length octets) → at < end → end ≡ printed_to at octets place
max_end at place end octets is less = omega (arith, is, less)

-- nothing is left up to the place
pub prints_nothing : (p : Printer) (options : DissectOptions) (front octets : List ℕ) (place : ℕ) (text : List ℕ) → min place (length octets) ≤ p.at
    → PrinterStands p options front octets → PrintsSide p p options front octets place text text
prints_nothing p options front octets place text le s = record {
  lines = [];
  are = record { before = s.told; before_are = s.stands.are; are = subst (AreTold options (take p.at octets)) (sym (append-nil s.told)) s.stands.are };
  at_is = within_max p.at place octets le;
  added = sym (append-nil text);
  stands = s;
}

-- the lines up to the place
pub prints_side : (old new : Printer) (options : DissectOptions) (front octets piece : List ℕ) (place end : ℕ) (empty told before after : List ℕ)
    → (s : PrinterStands old options front octets) → end ≡ min place (length octets) → old.at < end
    → take old.at octets ++ piece ≡ take end octets → new.at ≡ end → new.front.now ≡ front → empty ≡ []
    → TellsMore new.dissector options (take old.at octets ++ piece) s.told empty told → after ≡ before ++ lines_behind front told
    → PrintsSide old new options front octets place before after
prints_side old new options front octets piece place end empty told before after s end_is less parts at_is front_is none t added =
    let lines_are : told ≡ t.lines = t.added ∙ ap (λ (e : List ℕ). e ++ t.lines) none in
    let there : take old.at octets ++ piece ≡ take new.at octets = parts ∙ ap (λ (n : ℕ). take n octets) (sym at_is) in
    let stands : StandsBehind new.dissector options (take new.at octets) (s.told ++ t.lines) =
    subst (λ (o : List ℕ). StandsBehind new.dissector options o (s.told ++ t.lines)) there t.stands in
    record {
      lines = t.lines;
      are = record { before = s.told; before_are = s.stands.are; are = stands.are };
      at_is = at_is ∙ max_end old.at place end octets end_is less;
      added = added ∙ ap (λ (l : List ℕ). before ++ lines_behind front l) lines_are;
      stands = record { told = s.told ++ t.lines; within = omega (arith, at_is, end_is); stands = stands; front_is = front_is };
    }

-- the last line
pub ends_side : (options : DissectOptions) (octets told front empty line before after : List ℕ) → empty ≡ [] → AreTold options octets told
    → EndsLines options octets told empty line → after ≡ before ++ lines_behind front line → EndsSideBehind options front octets before after
ends_side options octets told front empty line before after none are e added =
    let line_is : line ≡ e.line = e.added ∙ ap (λ (t : List ℕ). t ++ e.line) none in
    record {
      line = e.line;
      ends = record { told = told; told_are = are; are = e.are };
      added = added ∙ ap (λ (l : List ℕ). before ++ lines_behind front l) line_is;
    }

-- a text that was appended, by what stands in it
pub behind_is : (before after front f told t : List ℕ) → after ≡ before ++ lines_behind f t → f ≡ front → t ≡ told → after ≡ before ++ lines_behind front told
behind_is before after front f told t added same lines_are =
    added ∙ (ap (λ (x : List ℕ). before ++ lines_behind x t) same ∙ ap (λ (x : List ℕ). before ++ lines_behind front x) lines_are)

-- bytes as a slice has them
pub side_within : (old new : Printer) (options : DissectOptions) (front slice octets : List ℕ) (place : ℕ) (before after : List ℕ) → slice ≡ octets
    → (PrinterStands old options front slice → PrintsSide old new options front slice place before after) → PrinterStands old options front octets
    → PrintsSide old new options front octets place before after
side_within old new options front slice octets place before after same prints s =
    subst (λ (o : List ℕ). PrintsSide old new options front o place before after) same (prints (subst (PrinterStands old options front) (sym same) s))

-- the last line of a side that is printed
pub last_side : (p : Printer) (options : DissectOptions) (front octets before after : List ℕ) (s : PrinterStands p options front octets)
    → p.at ≡ length octets → (StandsBehind p.dissector options octets s.told → EndsSideBehind options p.front.now octets before after)
    → EndsSideBehind options front octets before after
last_side p options front octets before after s all ends =
    let whole : take p.at octets ≡ octets = take_all p.at octets (omega (arith, all)) in
    subst (λ (f : List ℕ). EndsSideBehind options f octets before after) s.front_is
    (ends (subst (λ (o : List ℕ). StandsBehind p.dissector options o s.told) whole s.stands))

-- ---- both sides

pub prints_mark : (old new : Printers) (asked : JudgeRecord) (up down : List ℕ) (mark : Mark) (before between after : List ℕ)
    → PrintsSide old.server new.server (printed_options asked Server) (codes "< ") down mark.down before between
    → PrintsSide old.client new.client (printed_options asked Client) (codes "> ") up mark.up between after → PrintsMark old new asked up down mark before after
prints_mark old new asked up down mark before between after s c = record {
  text = lines_behind (codes "< ") s.lines ++ lines_behind (codes "> ") c.lines;
  turn = record {
    server = s.lines;
    server_are = subst (λ (n : ℕ). AreLinesBetween (printed_options asked Server) down old.server.at n s.lines) s.at_is s.are;
    client = c.lines;
    client_are = subst (λ (n : ℕ). AreLinesBetween (printed_options asked Client) up old.client.at n c.lines) c.at_is c.are;
    text_is = refl;
  };
  client_is = c.at_is;
  server_is = s.at_is;
  added = c.added ∙ (ap (λ (t : List ℕ). t ++ lines_behind (codes "> ") c.lines) s.added
      ∙ append_assoc before (lines_behind (codes "< ") s.lines) (lines_behind (codes "> ") c.lines));
  stand = record { client = c.stands; server = s.stands };
}

pub adds_last : (asked : JudgeRecord) (up down before between after : List ℕ)
    → EndsSideBehind (printed_options asked Server) (codes "< ") down before between
    → EndsSideBehind (printed_options asked Client) (codes "> ") up between after → AddsLastLines asked up down before after
adds_last asked up down before between after s c = record {
  text = lines_behind (codes "< ") s.line ++ lines_behind (codes "> ") c.line;
  last = record { server = s.line; server_is = s.ends; client = c.line; client_is = c.ends; text_is = refl };
  added = c.added ∙ (ap (λ (t : List ℕ). t ++ lines_behind (codes "> ") c.line) s.added
      ∙ append_assoc before (lines_behind (codes "< ") s.line) (lines_behind (codes "> ") c.line));
}

-- ---- as far as the marks were gone over

-- an element, whatever stands for none
pub get_same : (ms marks : List Mark) (i : ℕ) (d : Mark) → ms ≡ marks → i < length marks → get_or ms i d ≡ get_or marks i (get_or ms i d)
get_same ms marks i d same below = ap (λ (t : List Mark). get_or t i d) same ∙ get_or_default marks i d (get_or ms i d) below

-- these marks are gone over, and this text was appended: with the lines from the places on, it is the lines of all
pub record TurnsTo (asked : JudgeRecord) (up down : List ℕ) (marks : List Mark) (n : ℕ) (printers : Printers) (before now : List ℕ) : Type 0 where
  pub text : List ℕ
  pub added : now ≡ before ++ text
  pub stand : PrintersStand printers asked up down
  pub rest : (later : List ℕ) → PrintsTurns asked up down printers.client.at printers.server.at (drop n marks) later
      → PrintsTurns asked up down 0 0 marks (text ++ later)

pub turns_first : (asked : JudgeRecord) (up down : List ℕ) (marks : List Mark) (printers : Printers) (before : List ℕ) → printers.client.at ≡ 0
    → printers.server.at ≡ 0 → PrintersStand printers asked up down → TurnsTo asked up down marks 0 printers before before
turns_first asked up down marks printers before c s stand = record {
  text = [];
  added = sym (append-nil before);
  stand = stand;
  rest = λ later h.
      subst (λ (n : ℕ). PrintsTurns asked up down 0 n marks later) s
      (subst (λ (n : ℕ). PrintsTurns asked up down n printers.server.at marks later) c h);
}

pub turns_more : (asked : JudgeRecord) (up down : List ℕ) (marks : List Mark) (n k : ℕ) (mark : Mark) (old new : Printers) (before now after : List ℕ)
    → n < length marks → k ≡ n + 1 → mark ≡ get_or marks n mark → TurnsTo asked up down marks n old before now
    → PrintsMark old new asked up down mark now after → TurnsTo asked up down marks k new before after
turns_more asked up down marks n k mark old new before now after below next is t m =
    let count : k ≡ suc n = omega (arith, next) in
    let here : drop n marks ≡ mark ∷ drop (suc n) marks = drop-cons marks n mark below ∙ ap (λ (x : Mark). x ∷ drop (suc n) marks) (sym is) in
    record {
      text = t.text ++ m.text;
      added = m.added ∙ (ap (λ (x : List ℕ). x ++ m.text) t.added ∙ append_assoc before t.text m.text);
      stand = m.stand;
      rest = λ later h.
          subst (PrintsTurns asked up down 0 0 marks) (sym (append_assoc t.text m.text later))
          (t.rest (m.text ++ later)
          (subst (λ (ms : List Mark). PrintsTurns asked up down old.client.at old.server.at ms (m.text ++ later)) (sym here) (
            m.text,
            later,
            m.turn,
            subst (λ (k : ℕ). PrintsTurns asked up down (printed_to old.client.at up mark.up) k (drop (suc n) marks) later) m.server_is
                (subst (λ (k : ℕ). PrintsTurns asked up down k new.server.at (drop (suc n) marks) later) m.client_is
                (subst (λ (i : ℕ). PrintsTurns asked up down new.client.at new.server.at (drop i marks) later) count h)),
            refl,
          )));
    }

all_printed : (at : ℕ) (octets : List ℕ) → at ≤ length octets → printed_to at octets (length octets) ≡ length octets
all_printed at octets le = omega (arith, le)

-- after the last mark both sides are printed to their ends
pub turns_all : (asked : JudgeRecord) (up down : List ℕ) (mark : Mark) (old new : Printers) (now after : List ℕ) → mark.up ≡ length up → mark.down ≡ length down
    → PrintersStand old asked up down → PrintsMark old new asked up down mark now after → ArePrinted new asked up down
turns_all asked up down mark old new now after u d s m = record {
  stand = m.stand;
  client_all = m.client_is ∙ (ap (λ (k : ℕ). printed_to old.client.at up k) u ∙ all_printed old.client.at up s.client.within);
  server_all = m.server_is ∙ (ap (λ (k : ℕ). printed_to old.server.at down k) d ∙ all_printed old.server.at down s.server.within);
}

pub turns_end : (asked : JudgeRecord) (up down : List ℕ) (marks : List Mark) (n : ℕ) (mark : Mark) (old new : Printers) (before now between after : List ℕ)
    → length marks ≤ n → mark.up ≡ length up → mark.down ≡ length down → TurnsTo asked up down marks n old before now
    → PrintsMark old new asked up down mark now between → AddsLastLines asked up down between after → AddsTurns asked up down marks before after
turns_end asked up down marks n mark old new before now between after end u d t m l =
    let done : drop n marks ≡ [] = drop_all n marks end in
    let client : printed_to old.client.at up mark.up ≡ length up =
    ap (λ (k : ℕ). printed_to old.client.at up k) u ∙ all_printed old.client.at up t.stand.client.within in
    let server : printed_to old.server.at down mark.down ≡ length down =
    ap (λ (k : ℕ). printed_to old.server.at down k) d ∙ all_printed old.server.at down t.stand.server.within in
    let turn : PrintsTurn asked up down old.client.at (length up) old.server.at (length down) m.text =
    subst (λ (k : ℕ). PrintsTurn asked up down old.client.at (length up) old.server.at k m.text) server
    (subst (λ (k : ℕ). PrintsTurn asked up down old.client.at k old.server.at (printed_to old.server.at down mark.down) m.text) client m.turn) in
    record {
      text = t.text ++ (m.text ++ l.text);
      printed = t.rest (m.text ++ l.text)
          (subst (λ (ms : List Mark). PrintsTurns asked up down old.client.at old.server.at ms (m.text ++ l.text)) (sym done)
          (m.text, l.text, turn, l.last, refl));
      added = l.added ∙ (ap (λ (x : List ℕ). x ++ l.text) (m.added ∙ ap (λ (x : List ℕ). x ++ m.text) t.added)
          ∙ (append_assoc (before ++ t.text) m.text l.text ∙ append_assoc before t.text (m.text ++ l.text)));
    }

-- ---- a record as slices have it

pub record_as : {A : Type 0} (file : Option A) (up down newup newdown : List ℕ) (marks new : List Mark) → newup ≡ up → newdown ≡ down → new ≡ marks
    → IsRecord file up down marks → IsRecord file newup newdown new
record_as file up down newup newdown marks new u d m h =
    subst (IsRecord file newup newdown) (sym m)
    (subst (λ (t : List ℕ). IsRecord file newup t marks) (sym d) (subst (λ (t : List ℕ). IsRecord file t down marks) (sym u) h))

pub turns_as : (asked : JudgeRecord) (up down newup newdown empty text : List ℕ) (marks new : List Mark) → newup ≡ up → newdown ≡ down → new ≡ marks
    → empty ≡ [] → AddsTurns asked up down marks empty text → PrintsTurns asked newup newdown 0 0 new text
turns_as asked up down newup newdown empty text marks new u d m none t =
    let text_is : t.text ≡ text = sym (t.added ∙ ap (λ (e : List ℕ). e ++ t.text) none) in
    subst (λ (ms : List Mark). PrintsTurns asked newup newdown 0 0 ms text) (sym m)
    (subst (λ (o : List ℕ). PrintsTurns asked newup o 0 0 marks text) (sym d)
    (subst (λ (o : List ℕ). PrintsTurns asked o down 0 0 marks text) (sym u) (subst (PrintsTurns asked up down 0 0 marks) text_is t.printed)))
