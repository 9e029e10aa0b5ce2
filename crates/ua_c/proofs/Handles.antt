-- The machine values of a `UaHandle`: its pointer, which is null or that of a `Loose` holding. Assumes `Logic`.
use Rattle.std.proofs.Common.{◌≡◌, ℕ, List, [], ◌∷◌, ◌++◌, refl, subst, lit<}
use seplogic.Ra.Ura.{Ura}
use mir.Raw.{raw as bare}
use mir.Val.{Val, vptr, vstruct, of_list, has_ty, WT}
use base.Logic.{ent, via, snd∗, guard, guard_i}
use base.Fml.{ftrue, fsep, fex}
use base.Fraction.{full_share}
use types.Logic.{Logic, sem}
use types.Kit.{Item, Goal, Seq, Step, step, ‵, given, ◌$◌, move, drop, use1, learn, fsplit, fjoin, fpick, fpack, feq_i, feq_l}
use mathlib.Core.Bool.{true, ◌&&◌}
use lib.Dec.{T}
use contract.Monad.{fact_use}
use denote.RattleType.{RattleType, Valss}
use denote.Builtin.{RawPtr}
use denote.Memory.{lone}
use denote.RawPtr.{Ptr, block_ptr, null_ptr, ptr_val, lies_at, Testable}
use denote.Steps.{nothing}
use denote.Param.{layout}
use denote.Struct.Struct.{within}
use denote.Struct.Owning.{shape}
use Rattle.std.proofs.GlobalToken.{dealloc_token-Testable}
use Rattle.std.proofs.alloc.Calls.{handle_tells}
use Rattle.std.proofs.alloc.Global.TheLaws as heap_laws
use Rattle.std.specs.contracts.alloc.Global as heap
use Rattle.std.specs.contracts.impls.GlobalAllocator.TheImpl.{ghosts}
use Rattle.std.specs.declared.alloc.Global.{Global}
use Rattle.std.specs.declared.option.Option.{Option}
use Rattle.std.specs.declared.option.Option.TheVariants.{None, Some}
use Rattle.std_alloc.specs.Box.Ownership.{box_owns}
use Rattle.std_alloc.proofs.ResultValues.{and_tt}
use Rattle.ua_c.specs.contracts.holding.Holding as holding
use Rattle.ua_c.specs.contracts.handle.UaHandle as handle
use Rattle.ua_c.specs.Held.{held}
use Rattle.ua_c.proofs.Values.{both, al, Good}

abbrev pub R : RattleType
R = holding.the_row

abbrev pub Z : RattleType
Z = heap.the_row

abbrev pub W : RattleType
W = handle.the_row

abbrev is_none : Option R.Denot → Type 0
is_none v = v ≡ None

abbrev is_some : Option R.Denot → R.Denot → Type 0
is_some v x = v ≡ Some x

pub none_good : (h : Val) → Good (layout Z) h → T (has_ty (layout Z) h && true) × WT (both (ptr_val null_ptr) h)
none_good h fits = (and_tt (has_ty (layout Z) h) fits.0, (record { fits = lit< tt }, (fits.1, tt)))

module _ {M : Type 1} {𝓤 : Ura M} (𝓛 : Logic 𝓤) (Q : RattleType) (a : Global) where
  tested : (p : Ptr) (x : Q.Denot)
      → ent 𝓤 (sem 𝓛 (box_owns (ghosts.dealloc_token a) Q p x)) (guard 𝓤 (Testable p) (sem 𝓛 (box_owns (ghosts.dealloc_token a) Q p x)))
  tested p x =
      fact_use 𝓤 (Testable p) (via 𝓤 _ (snd∗ 𝓤 (sem 𝓛 (lies_at Q full_share p x)) (sem 𝓛 (ghosts.dealloc_token a (bare (lone Q.mir)) p)))
      (dealloc_token-Testable 𝓛 a (bare (lone Q.mir)) p)) (guard_i 𝓤 (Testable p) (sem 𝓛 (box_owns (ghosts.dealloc_token a) Q p x)))

module _ {M : Type 1} {𝓤 : Ura M} {𝓛 : Logic 𝓤} {K : Type 0} {Γ : List (Item 𝓤)} {G : Goal 𝓤 𝓛.H} where
  pub either_held : K → (Q : RattleType) (a : Global) (p : Ptr) (v : Option Q.Denot) → (p ≡ null_ptr → v ≡ None → Seq K 𝓛 Γ G)
      → ((b o : ℕ) (x : Q.Denot) → p ≡ block_ptr b o → v ≡ Some x → Testable (block_ptr b o)
      → Seq K 𝓛 (‵ (box_owns (ghosts.dealloc_token a) Q (block_ptr b o) x) ∷ Γ) G)
      → Seq K 𝓛 (‵ (held (ghosts.dealloc_token a) Q p v) ∷ Γ) G
  either_held t Q a null_ptr v none one = fpick t (λ e. drop t $ none refl e)
  either_held t Q a (block_ptr b o) v none one = fpick t (λ x. fsplit t $ fpick t (λ e. drop t $
      use1 𝓛 (given (Testable (block_ptr b o)) (‵ (box_owns (ghosts.dealloc_token a) Q (block_ptr b o) x))) (tested 𝓛 Q a (block_ptr b o) x) $ learn t
      (λ test. one b o x refl e test)))

module _ {M : Type 1} {𝓤 : Ura M} {𝓛 : Logic 𝓤} {K : Type 0} {Γ : List (Item 𝓤)} {G : Goal 𝓤 𝓛.H} where
  pub holding_out : K → (d : W.Denot) (vs : List Val)
      → ((h : Val) → d.value ≡ None → vs ≡ both (ptr_val null_ptr) h ∷ [] → Good (layout Z) h → Seq K 𝓛 (‵ (Z.own_val d.alloc (h ∷ [])) ∷ Γ) G)
      → ((b o : ℕ) (h : Val) (x : R.Denot) → d.value ≡ Some x → Testable (block_ptr b o) → vs ≡ both (vptr b o) h ∷ [] → Good (layout Z) h
      → Seq K 𝓛 (‵ (box_owns (ghosts.dealloc_token d.alloc) R (block_ptr b o) x) ∷ ‵ (Z.own_val d.alloc (h ∷ [])) ∷ Γ) G)
      → Seq K 𝓛 (‵ (W.own_val d vs) ∷ Γ) G
  holding_out t d vs none one =
      fsplit t $ fpick t
      (λ vss. fsplit t $ feq_l t
      (λ ev. fsplit t $ feq_l t
      (λ ep. fsplit t $ handle_tells (al R Z heap_laws.the_row_laws ghosts) t d.alloc vss.1.0 (λ h ea fits. move t (1 ∷ []) $ drop t $ move t (1 ∷ []) $
      let word : (p : Ptr) → d.at ≡ p → vs ≡ both (ptr_val p) h ∷ [] = λ p e.
      subst (λ (q : Ptr). vs ≡ vstruct (of_list (ptr_val q ∷ h ∷ [])) ∷ []) e
      (subst (λ (ws : List Val). vs ≡ vstruct (of_list (ptr_val d.at ∷ (ws ++ []))) ∷ []) ea
      (subst (λ (ps : List Val). vs ≡ vstruct (of_list (ps ++ (vss.1.0 ++ []))) ∷ []) ep ev)) in
      either_held t R d.alloc d.at d.value (λ e is. none h is (word null_ptr e) fits) (λ b o x e is test. one b o h x is test (word (block_ptr b o) e) fits)))))

  pub handle_in : K → (p : Ptr) (h : Val) (a : Z.Denot) (v : Option R.Denot)
      → Step K 𝓛 (‵ (W.own_val (record { at = p; alloc = a; value = v }) (both (ptr_val p) h ∷ [])) ∷ Γ) G
      (‵ (held (ghosts.dealloc_token a) R p v) ∷ ‵ (Z.own_val a (h ∷ [])) ∷ Γ) G
  handle_in t p h a v = step (λ s. let w : Val = both (ptr_val p) h in
      nothing t $ move t (2 ∷ 0 ∷ []) $ fjoin t $ feq_i t (List Val) (ptr_val p ∷ []) (ptr_val p ∷ []) refl $ fjoin t $ feq_i t (List Val) (w ∷ [])
      (w ∷ []) refl $ fjoin t $
      fpack t (Valss (RawPtr ∷ Z ∷ [])) (within (shape handle.the_type) (p, ((heap.the_field).into a, tt)) (w ∷ [])) (ptr_val p ∷ [], (h ∷ [], tt)) $ fjoin t $
      s)

module _ {M : Type 1} {𝓤 : Ura M} {𝓛 : Logic 𝓤} {K : Type 0} {Γ : List (Item 𝓤)} {G : Goal 𝓤 𝓛.H} where
  pub none_in : K → (h : Val) (a : Z.Denot) → Step K 𝓛 (‵ (W.own_val (record { at = null_ptr; alloc = a; value = None }) (both (ptr_val null_ptr) h ∷ [])) ∷ Γ)
      G (‵ (Z.own_val a (h ∷ [])) ∷ Γ) G
  none_in t h a = step (λ s. nothing t $ fpack t (is_none None) (λ _. ftrue) refl $ handle_in t null_ptr h a None $ s)

  pub some_in : K → (b o : ℕ) (h : Val) (a : Z.Denot) (x : R.Denot)
      → Step K 𝓛 (‵ (W.own_val (record { at = block_ptr b o; alloc = a; value = Some x }) (both (vptr b o) h ∷ [])) ∷ Γ) G
      (‵ (box_owns (ghosts.dealloc_token a) R (block_ptr b o) x) ∷ ‵ (Z.own_val a (h ∷ [])) ∷ Γ) G
  some_in t b o h a x = step (λ s. nothing t $ fpack t (is_some (Some x) x) (λ _. ftrue) refl $ fjoin t $
      fpack t R.Denot (λ y. fsep (fex (is_some (Some x) y) (λ _. ftrue)) (box_owns (ghosts.dealloc_token a) R (block_ptr b o) y)) x $ handle_in t
      (block_ptr b o) h a (Some x) $ s)
