-- Arrays and structures of what can be written back can be written back, and so can DiagnosticInfos.
use Rattle.std.specs.Prelude.{◌≡◌, ℕ, ◌≤◌, List, [], ◌∷◌, Bool, true, ◌&&◌, length, Option, Some, None}
use Rattle.std.specs.List.{list_all}
use Rattle.std.proofs.Common.{refl, sym, ap, ap₂, subst, ◌∙◌, arith}
use Rattle.std.proofs.lemmas.Bool.{lt-ltb, le-leb}
use Rattle.ua_builtin.specs.Counted.{first_negative}
use Rattle.ua_builtin.specs.Format.{Flat, Format, flat, Within, most_levels}
use Rattle.ua_builtin.specs.Join.{pair, struct}
use Rattle.ua_diagnostic.specs.Diagnostic.{diagnostic_depth}
use Rattle.ua_diagnostic.specs.View.{diagnostic_of}
use Rattle.ua_diagnostic.specs.Formats.{diagnostic_format}
use Rattle.ua_opening.specs.Array.{EachEncoded, EncodesArray, items_depth, array_depth, array_fits, array}
use Rattle.ua_opening.specs.Field.{byte, byte_string, int32, string, uint32}
use Rattle.ua_opening.specs.WrittenBack.{array_all}
use Rattle.ua_opening.proofs.DiagnosticsBack.{diagnostic_back}
use Rattle.ua_opening.proofs.FlatsBack.{WritesBack, back_number, back_signed_32, back_text, back_counted}

-- of the values of at most 100 levels that octets encode, just those that pass the test can be written
pub record WritesBackWhere {A : Type 0} (test : A → Bool) (f : Format A) : Type 0 where
  pub agrees : (v : A) (b : List ℕ) → Within f.encodes f.depth most_levels v b → f.encodable v ≡ test v

-- each of them can be written
abbrev pub AllWriteBack : {A : Type 0} → Format A → Type 0
AllWriteBack f = WritesBackWhere (λ v. true) f

-- ---- formats made of formats

pub back_flat : {A : Type 0} {f : Flat A} → WritesBack f → AllWriteBack (flat f)
back_flat back = record { agrees = λ v b h. back.fits v b h.0 }

pub where_pair : {A B : Type 0} {t : A → Bool} {u : B → Bool} {f : Format A} {g : Format B} → WritesBackWhere t f → WritesBackWhere u g
    → WritesBackWhere (λ v. t v.0 && u v.1) (pair f g)
where_pair first second = record {
  agrees = λ v b h.
      ap₂ (λ (x y : Bool). x && y) (first.agrees v.0 h.0.front (h.0.first_encoded, omega (arith, h.1)))
      (second.agrees v.1 h.0.back (h.0.second_encoded, omega (arith, h.1)));
}

-- whole: a structure is made of its parts, which tells them to the checker; forth: they are what it is made of
pub where_struct : {A B : Type 0} {t : A → Bool} {f : Format A} (make : A → B) (parts : B → A) (whole : (v : B) → v ≡ make (parts v)) (forth : (x : A)
    → parts (make x) ≡ x) → WritesBackWhere t f → WritesBackWhere (λ v. t (parts v)) (struct make parts f)
where_struct {f = f} make parts whole forth back = record {
  agrees = λ v b h.
      let same = ap parts h.0.is ∙ forth h.0.of in
      back.agrees (parts v) b (subst (λ x. f.encodes x b) (sym same) h.0.encoded, h.1);
}

each_back : {A : Type 0} {t : A → Bool} (f : Format A) → WritesBackWhere t f → (v : List A) (b : List ℕ) → EachEncoded f.encodes v b
    → items_depth f.depth v ≤ most_levels → list_all f.encodable v ≡ list_all t v
each_back f back [] b h deep = refl
each_back f back (x ∷ v) b h deep =
    ap₂ (λ (c d : Bool). c && d) (back.agrees x h.0 (h.3, omega (arith, deep))) (each_back f back v h.1 h.4 (omega (arith, deep)))

items_back : {A : Type 0} {t : A → Bool} (f : Format A) → WritesBackWhere t f → (v : Option (List A)) (b : List ℕ)
    → Within (EncodesArray f.encodes) (array_depth f.depth) most_levels v b → array_fits f.encodable v ≡ array_all t v
items_back f back None b h = refl
items_back {t = t} f back (Some v) b h = ap₂ (λ (c d : Bool). c && d) (lt-ltb (length v) first_negative h.0.1) (each_back f back v h.0.0 h.0.3 h.1)

pub where_array : {A : Type 0} {t : A → Bool} {f : Format A} → WritesBackWhere t f → WritesBackWhere (array_all t) (array f)
unfolding array
where_array {f = f} back = record { agrees = items_back f back }

-- ---- the same where each value can be written

pub back_pair : {A B : Type 0} {f : Format A} {g : Format B} → AllWriteBack f → AllWriteBack g → AllWriteBack (pair f g)
back_pair first second = where_pair first second

pub back_struct : {A B : Type 0} {f : Format A} (make : A → B) (parts : B → A) (whole : (v : B) → v ≡ make (parts v)) (forth : (x : A) → parts (make x) ≡ x)
    → AllWriteBack f → AllWriteBack (struct make parts f)
back_struct make parts whole forth back = where_struct make parts whole forth back

each_true : {A : Type 0} (v : List A) → list_all (λ x. true) v ≡ true
each_true [] = refl
each_true (x ∷ v) = each_true v

all_true : {A : Type 0} (v : Option (List A)) → array_all (λ x. true) v ≡ true
all_true None = refl
all_true (Some v) = each_true v

pub back_array : {A : Type 0} {f : Format A} → AllWriteBack f → AllWriteBack (array f)
back_array back = record { agrees = λ v b h. (where_array back).agrees v b h ∙ all_true v }

-- ---- fields

pub back_byte : AllWriteBack byte
back_byte = back_flat (back_number 1)

pub back_uint32 : AllWriteBack uint32
back_uint32 = back_flat (back_number 4)

pub back_int32 : AllWriteBack int32
back_int32 = back_flat back_signed_32

pub back_string : AllWriteBack string
back_string = back_flat back_text

pub back_byte_string : AllWriteBack byte_string
back_byte_string = back_flat back_counted

-- ---- DiagnosticInfos

pub back_diagnostic : AllWriteBack diagnostic_format
unfolding diagnostic_format
back_diagnostic = record {
  agrees = λ v b h. ap₂ (λ (x y : Bool). x && y) (le-leb (diagnostic_depth (diagnostic_of v)) most_levels h.1) (diagnostic_back (diagnostic_of v) b h.0);
}
