-- The lines of what Writes stored, one item after the other.
use Rattle.std.proofs.Common.{◌≡◌, List, ℕ, Bool, [], ◌∷◌, ◌++◌, Result, Ok, Err, codes, is_ok, if◌then◌else◌}
use Rattle.std.proofs.Common.{refl, sym, ap, subst, ◌∙◌, append_assoc, append-nil, take, get_or, length, ◌<◌, ◌+◌}
use Rattle.std.proofs.lemmas.List.{take_more}
use Rattle.ua_builtin.specs.NodeText.{node_text}
use Rattle.ua_structures.specs.declared.attribute.WriteValue.{WriteValue}
use Rattle.ua_texts.specs.PlainLeaf.{Adds}
use Rattle.ua_serving.specs.Stored.{AreStoredLines, IsStoredLine, IsValuePart}

-- a line more
pub stored_more : (plain : Bool) (items : List WriteValue) (item : WriteValue) (text line new : List ℕ) → AreStoredLines plain items text
    → IsStoredLine plain item line → new ≡ text ++ line
    → AreStoredLines plain (items ++ item ∷ []) new
stored_more plain [] item text line new none is added = (line, [], added ∙ ap (λ (t : List ℕ). t ++ line) none ∙ sym (append-nil line), is, refl)
stored_more plain (x ∷ items) item text line new so is added = (
  so.0,
  so.1 ++ line,
  added ∙ ap (λ (t : List ℕ). t ++ line) so.2 ∙ append_assoc so.0 so.1 line,
  so.3,
  stored_more plain items item so.1 line (so.1 ++ line) so.4 is refl,
)

-- the lines of these items were added
abbrev pub AddedLines : Bool → List WriteValue → List ℕ → List ℕ → Type 0
AddedLines plain items old new = (text : List ℕ) × (new ≡ old ++ text) × AreStoredLines plain items text

pub added_none : (plain : Bool) (old : List ℕ) → AddedLines plain [] old old
added_none plain old = ([], sym (append-nil old), refl)

-- they are all
pub lines_alone : (plain : Bool) (items written : List WriteValue) (old new : List ℕ) → old ≡ [] → items ≡ written → AddedLines plain items old new
    → AreStoredLines plain written new
lines_alone plain items written old new none same so =
    subst (λ (w : List WriteValue). AreStoredLines plain w new) same
    (subst (λ (t : List ℕ). AreStoredLines plain items t) (sym (so.1 ∙ ap (λ (t : List ℕ). t ++ so.0) none)) so.2)

-- the line of the item at a place was added
pub added_next : (plain : Bool) (items : List WriteValue) (i : ℕ) (d item : WriteValue) (old mid new : List ℕ) → i < length items → item ≡ get_or items i d
    → AddedLines plain (take i items) old mid
    → (line : List ℕ) × (new ≡ mid ++ line) × IsStoredLine plain item line → AddedLines plain (take (i + 1) items) old new
added_next plain items i d item old mid new within here so next =
    let line : IsStoredLine plain (get_or items i d) next.0 = subst (λ (x : WriteValue). IsStoredLine plain x next.0) here next.2 in (
      so.0 ++ next.0,
      next.1 ∙ ap (λ (t : List ℕ). t ++ next.0) so.1 ∙ append_assoc old so.0 next.0,
      subst (λ (t : List WriteValue). AreStoredLines plain t (so.0 ++ next.0)) (sym (take_more items i d within))
          (stored_more plain (take i items) (get_or items i d) so.0 next.0 (so.0 ++ next.0) so.2 line refl),
    )

-- the parts of a line
pub line_added : {E : Type 0} (r : Result (Unit {0}) E) (plain : Bool) (item : WriteValue) (old a b c new : List ℕ) → a ≡ old ++ codes "write "
    → b ≡ a ++ node_text item.node_id
    → (value : List ℕ) × (c ≡ b ++ value) × IsValuePart plain item.value.value value → new ≡ (if is_ok r then c ++ codes "\n" else c)
    → Adds r old new (IsStoredLine plain item)
line_added (Ok done) plain item old a b c new first second third last = (
  codes "write " ++ (node_text item.node_id ++ (third.0 ++ codes "\n")),
  last ∙ ap (λ (t : List ℕ). t ++ codes "\n") (third.1 ∙ ap (λ (t : List ℕ). t ++ third.0) (second ∙ ap (λ (t : List ℕ). t ++ node_text item.node_id) first))
      ∙ append_assoc ((old ++ codes "write ") ++ node_text item.node_id) third.0 (codes "\n")
      ∙ append_assoc (old ++ codes "write ") (node_text item.node_id) (third.0 ++ codes "\n")
      ∙ append_assoc old (codes "write ") (node_text item.node_id ++ (third.0 ++ codes "\n")),
  record { value = third.0; value_is = third.2; line_is = refl },
)
line_added (Err fault) plain item old a b c new first second third last = tt
