-- The line of an ExtensionObject that holds no identity token.
use Rattle.std.proofs.Common.{◌≡◌, Bool, true, false, List, ℕ, ◌++◌, None, Result, Ok, Err, OnOk, refl}
use Rattle.ua_builtin.specs.declared.extension_object.ExtensionObject.{ExtensionObject}
use Rattle.ua_texts.specs.PlainLeaf.{Either}
use Rattle.ua_fields.specs.Leaves.{object_leaf, object_or_token}
use Rattle.ua_fields.specs.Tree.{IsBehind, IsText, line, same_leaf}
use Rattle.ua_fields.specs.declared.style.FieldStyle.{FieldStyle}

either_same : (b : Bool) (A : Type 0) → A → Either b A A
either_same true A a = a
either_same false A a = a

-- a text that is the same in each style
pub same_text : (style : FieldStyle) (shown : List ℕ) → IsText style (same_leaf shown) shown
same_text style shown = either_same style.plain (shown ≡ shown) refl

-- below the line of an object that holds no token nothing stands
pub object_line : {E : Type 0} (r : Result (Unit {0}) E) (style : FieldStyle) (margin path old new : List ℕ) (x : ExtensionObject)
    → OnOk r ((shown : List ℕ) × (new ≡ old ++ line margin path shown) × IsText style (object_leaf x) shown)
    → OnOk r (IsBehind style margin path old (object_or_token x None) new)
object_line (Ok u) style margin path old new x h = (h.0, new, h.1, h.2, either_same style.plain (new ≡ new) refl)
object_line (Err e) style margin path old new x h = tt
