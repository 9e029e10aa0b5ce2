-- Reasons against a line, one at a time in their order.
use Rattle.std.proofs.Common.{◌≡◌, ◌≢◌, ℕ, zero, suc, ◌<◌, Bool, List, [], ◌∷◌, length, slice_index_or}
use Rattle.std.proofs.Common.{Option, Some, None, refl, sym, ◌∙◌, ap, subst, arith}
use Rattle.ua_builtin.specs.Exact.{◌>>=◌}
use Rattle.ua_builtin.specs.declared.node_id.NodeId.{NodeId}
use Rattle.ua_nodes.specs.declared.fault.LineReason.{LineReason}
use Rattle.ua_nodes.specs.declared.fault.LineReason.TheVariants.{Fields, Node, Access, Name, Kind, Value, Duplicate}
use Rattle.ua_nodes.specs.declared.node.Access.{Access as Rights}
use Rattle.ua_variant.specs.Data.{VariantData}
use Rattle.ua_nodes.specs.NodeFile.{fields, field, NamesId, access_denoted, name_denoted, HoldsAgainstLine, place, IsFirstReason}
use Rattle.ua_nodes.specs.Table.{Nodes}
use Rattle.ua_nodes.specs.TypeName.{type_denoted}
use Rattle.ua_nodes.specs.ValueText.{value_denoted}

-- no reason in front of a place holds
abbrev pub Passes : ℕ → Nodes → List ℕ → Type 0
Passes n before line = (other : LineReason) → place other < n → ¬ (HoldsAgainstLine other before line)

reason_at : ℕ → LineReason
reason_at zero = Fields
reason_at (suc zero) = Node
reason_at (suc (suc zero)) = Access
reason_at (suc (suc (suc zero))) = Name
reason_at (suc (suc (suc (suc zero)))) = Kind
reason_at (suc (suc (suc (suc (suc zero))))) = Value
reason_at (suc (suc (suc (suc (suc (suc n)))))) = Duplicate

at_place : (r : LineReason) → reason_at (place r) ≡ r
unfolding reason_at
at_place Fields = refl
at_place Node = refl
at_place Access = refl
at_place Name = refl
at_place Kind = refl
at_place Value = refl
at_place Duplicate = refl

pub same_place : (a b : LineReason) → place a ≡ place b → a ≡ b
same_place a b e = sym (at_place a) ∙ ap reason_at e ∙ at_place b

pub pass_none : (before : Nodes) (line : List ℕ) → Passes 0 before line
pass_none before line other less = absurd (omega arith)

-- one reason more that does not hold
pub pass : (r : LineReason) (before : Nodes) (line : List ℕ) → Passes (place r) before line → ¬ (HoldsAgainstLine r before line)
    → Passes (suc (place r)) before line
pass r before line p h other less held = absurd (p other (omega (arith, apart)) held)
  where
    apart : place other ≢ place r
    apart e = h (subst (λ (q : LineReason). HoldsAgainstLine q before line) (same_place other r e) held)

none_some : {A : Type 0} (o : Option A) (x : A) → o ≡ Some x → ¬ (o ≡ None)
none_some o x e n = absurd cc

-- a line that is cut into five fields
pub record IsCut (line a b c d e : List ℕ) : Type 0 where
  pub is : fields line ≡ a ∷ b ∷ c ∷ d ∷ e ∷ []

five : (line a b c d e : List ℕ) → IsCut line a b c d e → length (fields line) ≡ 5
five line a b c d e k = ap length k.is

field_is : (i : ℕ) (line a b c d e : List ℕ) → IsCut line a b c d e → field i line ≡ slice_index_or (a ∷ b ∷ c ∷ d ∷ e ∷ []) i []
field_is i line a b c d e k = ap (λ (t : List (List ℕ)). slice_index_or t i []) k.is

id_is : (line a b c d e : List ℕ) (id : NodeId) → IsCut line a b c d e → NamesId a id → NamesId (field 0 line) id
id_is line a b c d e id k h = subst (λ (t : List ℕ). NamesId t id) (sym (field_is 0 line a b c d e k)) h

id_back : (line a b c d e : List ℕ) (id : NodeId) → IsCut line a b c d e → NamesId (field 0 line) id → NamesId a id
id_back line a b c d e id k h = subst (λ (t : List ℕ). NamesId t id) (field_is 0 line a b c d e k) h

-- ---- no reason in front of a field

pass_fields : (line a b c d e : List ℕ) (before : Nodes) → IsCut line a b c d e → Passes 1 before line
pass_fields line a b c d e before k = pass Fields before line (pass_none before line) (λ h. h (five line a b c d e k))

pass_node : (line a b c d e : List ℕ) (before : Nodes) (id : NodeId) → IsCut line a b c d e → NamesId a id → Passes 2 before line
pass_node line a b c d e before id k h = pass Node before line (pass_fields line a b c d e before k) (λ n. n id (id_is line a b c d e id k h))

pass_access : (line a b c d e : List ℕ) (before : Nodes) (id : NodeId) (r : Rights) → IsCut line a b c d e → NamesId a id → access_denoted b ≡ Some r
    → Passes 3 before line
pass_access line a b c d e before id r k h p =
    pass Access before line (pass_node line a b c d e before id k h)
    (none_some (access_denoted (field 1 line)) r (ap access_denoted (field_is 1 line a b c d e k) ∙ p))

pass_name : (line a b c d e : List ℕ) (before : Nodes) (id : NodeId) (r : Rights) (n : Option (List ℕ)) → IsCut line a b c d e → NamesId a id
    → access_denoted b ≡ Some r → name_denoted c ≡ Some n → Passes 4 before line
pass_name line a b c d e before id r n k h p q =
    pass Name before line (pass_access line a b c d e before id r k h p)
    (none_some (name_denoted (field 2 line)) n (ap name_denoted (field_is 2 line a b c d e k) ∙ q))

pass_kind : (line a b c d e : List ℕ) (before : Nodes) (id : NodeId) (r : Rights) (n : Option (List ℕ)) (t : ℕ × Bool) → IsCut line a b c d e → NamesId a id
    → access_denoted b ≡ Some r → name_denoted c ≡ Some n
    → type_denoted d ≡ Some t → Passes 5 before line
pass_kind line a b c d e before id r n t k h p q w =
    pass Kind before line (pass_name line a b c d e before id r n k h p q)
    (none_some (type_denoted (field 3 line)) t (ap type_denoted (field_is 3 line a b c d e k) ∙ w))

-- ---- the first reason

pub bad_node : (line a b c d e : List ℕ) → IsCut line a b c d e → ((id : NodeId) → ¬ (NamesId a id)) → (before : Nodes) → IsFirstReason Node before line
bad_node line a b c d e k h before = record { holds = λ id n. h id (id_back line a b c d e id k n); first = pass_fields line a b c d e before k }

pub bad_access : (line a b c d e : List ℕ) (id : NodeId) → IsCut line a b c d e → NamesId a id → access_denoted b ≡ None → (before : Nodes)
    → IsFirstReason Access before line
bad_access line a b c d e id k h none before =
    record { holds = ap access_denoted (field_is 1 line a b c d e k) ∙ none; first = pass_node line a b c d e before id k h }

pub bad_name : (line a b c d e : List ℕ) (id : NodeId) (r : Rights) → IsCut line a b c d e → NamesId a id → access_denoted b ≡ Some r → name_denoted c ≡ None
    → (before : Nodes) → IsFirstReason Name before line
bad_name line a b c d e id r k h p none before =
    record { holds = ap name_denoted (field_is 2 line a b c d e k) ∙ none; first = pass_access line a b c d e before id r k h p }

pub bad_kind : (line a b c d e : List ℕ) (id : NodeId) (r : Rights) (n : Option (List ℕ)) → IsCut line a b c d e → NamesId a id → access_denoted b ≡ Some r
    → name_denoted c ≡ Some n → type_denoted d ≡ None
    → (before : Nodes) → IsFirstReason Kind before line
bad_kind line a b c d e id r n k h p q none before =
    record { holds = ap type_denoted (field_is 3 line a b c d e k) ∙ none; first = pass_name line a b c d e before id r n k h p q }

-- the value that two fields denote
abbrev both : List ℕ → List ℕ → Option VariantData
both d e = type_denoted d >>= λ t. value_denoted t.0 t.1 e

both_is : (line a b c d e : List ℕ) (t : ℕ × Bool) → IsCut line a b c d e → type_denoted d ≡ Some t
    → both (field 3 line) (field 4 line) ≡ value_denoted t.0 t.1 e
both_is line a b c d e t k w =
    ap (λ (x : List ℕ). both x (field 4 line)) (field_is 3 line a b c d e k) ∙ ap (both d) (field_is 4 line a b c d e k)
    ∙ ap (λ (o : Option (ℕ × Bool)). o >>= λ t. value_denoted t.0 t.1 e) w

pub bad_value : (line a b c d e : List ℕ) (id : NodeId) (r : Rights) (n : Option (List ℕ)) (t : ℕ × Bool) → IsCut line a b c d e → NamesId a id
    → access_denoted b ≡ Some r → name_denoted c ≡ Some n
    → type_denoted d ≡ Some t → value_denoted t.0 t.1 e ≡ None → (before : Nodes) → IsFirstReason Value before line
bad_value line a b c d e id r n t k h p q w none before =
    record { holds = both_is line a b c d e t k w ∙ none; first = pass_kind line a b c d e before id r n t k h p q w }
