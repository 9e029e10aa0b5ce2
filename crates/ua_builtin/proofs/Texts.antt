-- What texts name, as it is read from their parts.
use Rattle.std.proofs.Common.{◌≡◌, ◌<◌, ◌^◌, ◌⊎◌, inl, inr, ℕ, Bool, true, false, cond, nat_eq, List, [], ◌∷◌, ◌++◌, Option}
use Rattle.std.proofs.Common.{Some, None, option_map, Result, Ok, Err, Bor, refl, sym, ap, subst, ◌∙◌, append_assoc, arith, lit<}
use Rattle.std.specs.Result.{OkIff, result_ok}
use Rattle.std.proofs.lemmas.Bool.{eqb-true}
use Rattle.std.proofs.lemmas.Str.Pattern.{IsSplitOnceResult, split_after, split_parts}
use Rattle.uuid.specs.Text.{hyphenated_text, lower, parsed}
use Rattle.uuid.proofs.TextLemmas.{by_index_length}
use Rattle.std.specs.Prelude.{codes}
use Rattle.std.specs.Fmt.{decimal}
use Rattle.std.proofs.lemmas.Str.Parse.{digit_at}
use Rattle.std.proofs.lemmas.Fmt.{decimal_is_IsNumeral}
use Rattle.ua_wire.proofs.Readers.{some_is}
use Rattle.ua_builtin.specs.NodeText.{semicolon, namespace_text, identifier_text, node_text, IsDecimal, IsGuidText, NamesIdentifier}
use Rattle.ua_builtin.specs.NodeText.{NamesNamespace, NamesNode, with_empty_identifier, filled_identifier, HasNoSemicolon, IsCutAtSemicolon, IsNodeTextRest}
use Rattle.ua_builtin.specs.declared.guid.Guid.{Guid}
use Rattle.ua_builtin.specs.declared.node_id.NodeId.{NodeId}
use Rattle.ua_builtin.specs.declared.node_id.Identifier.{Identifier}
use Rattle.ua_builtin.specs.declared.node_id.Identifier.TheVariants.{Numeric, Text, Guid as Global, Opaque}

-- ---- identifiers

first_is : (text xs ys : List ℕ) (x y : ℕ) → text ≡ x ∷ xs → text ≡ y ∷ ys → x ≡ y
first_is text xs ys x y p q = cc

pub apart : (text xs ys : List ℕ) (x y : ℕ) → text ≡ x ∷ xs → text ≡ y ∷ ys → (x ≡ y → ⊥) → ⊥
apart text xs ys x y p q ne = ne (first_is text xs ys x y p q)

-- `g=` and no Guid names nothing
pub no_guid : (text rest : List ℕ) → text ≡ codes "g=" ++ rest → ((g : Guid) → IsGuidText rest g → ⊥) → (i : Identifier) → NamesIdentifier i text → ⊥
no_guid text rest e none (Numeric n) h = apart text _ _ 103 105 e h.1 (λ p. absurd (omega arith))
no_guid text rest e none (Text t) h = apart text _ _ 103 115 e h.1 (λ p. absurd (omega arith))
no_guid text rest e none (Global g) h = let same : rest ≡ h.0 = (let p = h.1 in cc) in none g (subst (λ (u : List ℕ). IsGuidText u g) (sym same) h.2)
no_guid text rest e none (Opaque b) h = apart text _ _ 103 98 e h.2 (λ p. absurd (omega arith))

-- no identifier's text begins as a namespace does
pub no_namespace : (i : Identifier) (text rest : List ℕ) → NamesIdentifier i text → text ≡ codes "ns=" ++ rest → ⊥
no_namespace (Numeric n) text rest h e = apart text _ _ 110 105 e h.1 (λ p. absurd (omega arith))
no_namespace (Text t) text rest h e = apart text _ _ 110 115 e h.1 (λ p. absurd (omega arith))
no_namespace (Global g) text rest h e = apart text _ _ 110 103 e h.1 (λ p. absurd (omega arith))
no_namespace (Opaque b) text rest h e = apart text _ _ 110 98 e h.2 (λ p. absurd (omega arith))

-- ---- namespaces

-- a NodeId that is named by what stands behind `ns=`
pub record Numbered (v : NodeId) (rest : List ℕ) : Type 0 where
  pub digits : List ℕ
  pub back : List ℕ
  pub parts : rest ≡ digits ++ semicolon ∷ back
  pub decimal : IsDecimal (2 ^ 16) v.namespace digits
  pub identifier : NamesIdentifier v.identifier back

behind_same : (x y : List ℕ) → codes "ns=" ++ x ≡ codes "ns=" ++ y → x ≡ y
behind_same x y e = cc

pub numbered : (v : NodeId) (text rest : List ℕ) → text ≡ codes "ns=" ++ rest → NamesNode v text → Numbered v rest
numbered v text rest e h =
    elim h.namespace [
      | inl p ↦ absurd (no_namespace v.identifier h.back rest h.identifier (sym (h.parts ∙ ap (λ (f : List ℕ). f ++ h.back) p.1) ∙ e))
      | inr q ↦ record {
        digits = q.digits;
        back = h.back;
        parts = behind_same rest (q.digits ++ semicolon ∷ h.back) (sym e ∙ h.parts ∙ ap (λ (f : List ℕ). f ++ h.back) q.is
            ∙ ap (λ (t : List ℕ). codes "ns=" ++ t) (append_assoc q.digits (semicolon ∷ []) h.back));
        decimal = q.decimal;
        identifier = h.identifier;
      }
    ]

pub no_semicolon : (bound n : ℕ) (digits : List ℕ) → IsDecimal bound n digits → HasNoSemicolon digits
no_semicolon bound n digits d i lt e = let r = digit_at digits i d.numeral.1 lt in absurd (omega (arith, r.0, r.1, e))

pub no_cut : (text rest : List ℕ) → text ≡ codes "ns=" ++ rest → IsCutAtSemicolon rest None → (v : NodeId) → NamesNode v text → ⊥
no_cut text rest e none v h =
    let n = numbered v text rest e h in
    none n.digits n.back (no_semicolon (2 ^ 16) v.namespace n.digits n.decimal) n.parts

-- the parts at the semicolon are those that name a NodeId
pub record Named (v : NodeId) (digits back : List ℕ) : Type 0 where
  pub decimal : IsDecimal (2 ^ 16) v.namespace digits
  pub identifier : NamesIdentifier v.identifier back

named : (text rest digits back : List ℕ) → text ≡ codes "ns=" ++ rest → IsCutAtSemicolon rest (Some (digits, back)) → (v : NodeId) → NamesNode v text
    → Named v digits back
named text rest digits back e cut v h =
    let n = numbered v text rest e h in
    let same = cut.1 n.digits n.back (no_semicolon (2 ^ 16) v.namespace n.digits n.decimal) n.parts in
    record {
      decimal = subst (IsDecimal (2 ^ 16) v.namespace) (sym same.0) n.decimal;
      identifier = subst (NamesIdentifier v.identifier) (sym same.1) n.identifier;
    }

pub no_decimal : (text rest digits back : List ℕ) → text ≡ codes "ns=" ++ rest → IsCutAtSemicolon rest (Some (digits, back))
    → ((n : ℕ) → IsDecimal (2 ^ 32) n digits → ⊥) → (v : NodeId) → NamesNode v text → ⊥
no_decimal text rest digits back e cut none v h =
    let d = (named text rest digits back e cut v h).decimal in
    none v.namespace (record { numeral = d.numeral; value = d.value; fits = omega (arith, d.fits) })

pub no_namespace_number : (text rest digits back : List ℕ) (n : ℕ) → text ≡ codes "ns=" ++ rest → IsCutAtSemicolon rest (Some (digits, back))
    → IsDecimal (2 ^ 32) n digits → (n < 2 ^ 16 → ⊥) → (v : NodeId) → NamesNode v text → ⊥
no_namespace_number text rest digits back n e cut decimal large v h =
    let d = (named text rest digits back e cut v h).decimal in
    large (omega (arith, sym decimal.value ∙ d.value, d.fits))

pub numbered_rest : (text rest digits back : List ℕ) (n : ℕ) → text ≡ codes "ns=" ++ rest → IsCutAtSemicolon rest (Some (digits, back))
    → IsDecimal (2 ^ 32) n digits → n < 2 ^ 16 → IsNodeTextRest n back text
numbered_rest text rest digits back n e cut decimal small = record {
  names = λ i h. record {
    front = codes "ns=" ++ (digits ++ semicolon ∷ []);
    back = back;
    parts = e ∙ ap (λ (t : List ℕ). codes "ns=" ++ t) (cut.0 ∙ sym (append_assoc digits (semicolon ∷ []) back));
    namespace = inr (record { digits = digits; is = refl; decimal = record { numeral = decimal.numeral; value = decimal.value; fits = small } });
    identifier = h;
  };
  alone = λ v h. let w = named text rest digits back e cut v h in (sym w.decimal.value ∙ decimal.value, w.identifier);
}

-- ---- the text of a NodeId names it

pub decimal_names : (bound n : ℕ) → n < bound → n < 2 ^ 64 → IsDecimal bound n (decimal n)
decimal_names bound n fits wide = let d = decimal_is_IsNumeral n wide in record { numeral = d.0; value = d.1; fits = fits }

numeric_is_named : (n : ℕ) → n < 2 ^ 32 → NamesIdentifier (filled_identifier (Numeric n)) (identifier_text (Numeric n))
numeric_is_named n fits = (decimal n, refl, decimal_names (2 ^ 32) n fits (omega arith))

pub numeric_names : (i : Identifier) (n : ℕ) → i ≡ Numeric n → n < 2 ^ 32 → NamesIdentifier (filled_identifier i) (identifier_text i)
numeric_names i n e fits = subst (λ (j : Identifier). NamesIdentifier (filled_identifier j) (identifier_text j)) (sym e) (numeric_is_named n fits)

pub guid_names : (i : Identifier) (g : Guid) (shown : List ℕ) → i ≡ Global g → shown ≡ hyphenated_text lower g.uuid → Some g.uuid ≡ parsed shown
    → NamesIdentifier (filled_identifier i) (identifier_text i)
guid_names i g shown e is back =
    let named : NamesIdentifier (filled_identifier (Global g)) (identifier_text (Global g)) =
    (hyphenated_text lower g.uuid, refl, (by_index_length 36 _, ap parsed (sym is) ∙ sym back)) in
    subst (λ (j : Identifier). NamesIdentifier (filled_identifier j) (identifier_text j)) (sym e) named

namespace_cases : (n : ℕ) (zero_is : Bool) → nat_eq n 0 ≡ zero_is → n < 2 ^ 16 → ((n ≡ 0) × (namespace_text n ≡ [])) ⊎ NamesNamespace n (namespace_text n)
namespace_cases n true e small = inl (eqb-true n 0 e, ap (λ (t : Bool). cond t [] (codes "ns=" ++ (decimal n ++ semicolon ∷ []))) e)
namespace_cases n false e small =
    inr (record {
      digits = decimal n;
      is = ap (λ (t : Bool). cond t [] (codes "ns=" ++ (decimal n ++ semicolon ∷ []))) e;
      decimal = decimal_names (2 ^ 16) n small (omega arith);
    })

pub node_names : (v : NodeId) (text : List ℕ) → v.namespace < 2 ^ 16 → text ≡ node_text v
    → NamesIdentifier (filled_identifier v.identifier) (identifier_text v.identifier) → NamesNode (with_empty_identifier v) text
node_names v text small e named = record {
  front = namespace_text v.namespace;
  back = identifier_text v.identifier;
  parts = e;
  namespace = namespace_cases v.namespace (nat_eq v.namespace 0) refl small;
  identifier = named;
}

-- ---- what calls answer

pub cut_is : (bs : List ℕ) (r : Option (Bor (List ℕ) × Bor (List ℕ))) → IsSplitOnceResult 59 bs r → IsCutAtSemicolon bs (option_map (λ r. (r.0.now, r.1.now)) r)
cut_is bs None h = λ front back no e. split_after 59 bs front back None h (lit< tt) e no
cut_is bs (Some x) h = ((split_parts 59 bs (Some x) h (lit< tt)).0, λ front back no e. split_after 59 bs front back (Some x) h (lit< tt) e no)

pub no_fit : {E : Type 0} (r : Result ℕ E) (n : ℕ) → None ≡ result_ok r → OkIff r (n < 65536) n → n < 2 ^ 16 → ⊥
no_fit (Ok x) n e fits small = absurd cc
no_fit (Err x) n e fits small = fits small

pub fit_is : {E : Type 0} (r : Result ℕ E) (m n : ℕ) → Some m ≡ result_ok r → OkIff r (n < 65536) n → (n < 2 ^ 16) × (n ≡ m)
fit_is (Ok x) m n e fits = (fits.0, sym fits.1 ∙ sym (some_is m x e))
fit_is (Err x) m n e fits = absurd cc

pub same_fault : {T U E : Type 0} (f e : E) → ◌≡◌ {A = Result T E} (Err f) (Err e) → ◌≡◌ {A = Result U E} (Err f) (Err e)
same_fault f e h = let same : f ≡ e = cc in ap Err same
