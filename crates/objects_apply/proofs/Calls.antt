-- A call on a lent table: TABLE for one that is not taken, and what was worked out for one that is; and a clearing.
use mathlib.Core.Path.{◌≡◌, refl, sym, ap, ◌∙◌}
use mathlib.Core.List.{List}
use mathlib.Core.Bool.{true, false}
use Prim.Native.Nat.{ℕ}
use lib.ListN.{length, set}
use Rattle.std.specs.Prelude.{Some, None, Ok, Err}
use Rattle.refusals.specs.Refusals.{refused_at}
use Rattle.refusals.specs.Outcomes.{Answer}
use Rattle.refusals.specs.declared.Refusal.TheVariants as R
use Rattle.refusals.specs.declared.Refused.{Refused}
use Rattle.objects.specs.declared.Object.{Object}
use Rattle.objects.specs.Entries.{blank}
use Rattle.objects.specs.Table.{judged}
use Rattle.objects.specs.Calls.{Call, clear, verdict, changed, answer, next}
use Rattle.objects.proofs.Kept.{changed_length}
use Rattle.objects_pmd.specs.Values.{good}
use Rattle.objects_apply.specs.Applied.{Applied}
use Rattle.objects_apply.specs.Slots.{slot_of}
use Rattle.objects_apply.specs.Worked.{Worked}
use Rattle.objects_apply.proofs.Marks.{slot_stands, slot_absent, stands_change}

module _ {c : Call} {t : List Object} where
  pub not_taken : judged good t ≡ false → {r : Answer} → r ≡ Err (refused_at R.Table 0) → Applied c t r t
  unfolding answer next
  not_taken j e = record { told = e ∙ simp j; table = rw j }

  module _ (j : judged good t ≡ true) {held : List Object} (is : held ≡ t) {u : List Object} where
    pub is_refused : {e : Refused} {r : Answer} → Worked c held (Err e) u → r ≡ Err e → Applied c t r t
    unfolding answer next
    is_refused w q =
        let v = rw is at w in
        record { told = q ∙ v.told ∙ simp j; table = rw (j, ← v.told) refl }

    pub is_done : {n : ℕ} {after : List Object} → Worked c held (Ok n) u → after ≡ u → Applied c t (Ok n) after
    unfolding answer next
    is_done w q =
        let v = rw is at w in
        record { told = v.told ∙ simp j; table = q ∙ rw (j, ← v.told) v.table }

    pub done_length : {n : ℕ} → Worked c held (Ok n) u → length t ≡ length u
    done_length w = let v = rw is at w in sym (ap length v.table ∙ changed_length c t)

-- a clearing, by the slot of the element
module _ (t : List Object) (n : ℕ) where
  pub clear_unknown : None ≡ slot_of t n → Worked (clear n) t (Err (refused_at R.Unknown 0)) t
  unfolding verdict
  clear_unknown s = record { told = simp (slot_absent t n s); table = refl }

  pub clear_known : {at : ℕ} → Some at ≡ slot_of t n → Worked (clear n) t (Ok 1) (set t at blank)
  unfolding verdict changed
  clear_known s =
      let st = slot_stands t n s in
      record { told = simp st.used; table = sym (stands_change st (λ (_ : Object). blank)) }
