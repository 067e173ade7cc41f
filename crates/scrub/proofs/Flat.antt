-- The flat run of writes is the layout of the kept items, and its size is what was added up.
use mathlib.Core.Path.{◌≡◌, refl, sym, ap, ap₂, ◌∙◌}
use mathlib.Core.List.{List, [], ◌∷◌, ◌++◌, map, append_assoc}
use mathlib.Core.Bool.{true, cond}
use Prim.Native.Nat.{ℕ, suc, ◌+◌, ◌<◌, ◌≤◌, ◌^◌}
use native.Mathlib.Omega.{arith}
use lib.Dec.{eqb}
use lib.ListN.{length, length-append}
use borrow.Author.Tests.{eq-eqb, ne_eqb}
use Rattle.runs.specs.Digits.{digits}
use Rattle.runs.proofs.Cases.{split}
use Rattle.runs.proofs.Digits.{length_digits}
use Rattle.numbers.specs.Tags.{tag_bytes}
use Rattle.numbers.specs.Lengths.{form_bytes, shortest, length_bytes}
use Rattle.numbers.proofs.Tags.{length_tag, tag_size_bounds, tag_short}
use Rattle.pack.specs.declared.Name.{Name}
use Rattle.pack.specs.declared.Payload.{Payload}
use Rattle.pack.specs.declared.Head.{Head}
use Rattle.pack.specs.declared.Item.{Item}
use Rattle.pack.specs.declared.Item.TheVariants as I
use Rattle.pack.specs.Said.{SaidPayload, SaidItem}
use Rattle.pack.specs.Items.{Part, one, many}
use Rattle.pack.specs.Slots.{slots}
use Rattle.pack.specs.Meaning.{stretch, meant_name, meant_payload, meant_part}
use Rattle.pack.proofs.Slots.{PartItems}
use Rattle.pack_layout.specs.Layout.{Entry, element, elements_bytes, chunks_bytes}
use Rattle.runs.specs.Those.{those, Each}
use Rattle.scrub_kept.specs.Sheet.{Sheet}
use Rattle.scrub_kept.specs.Kept.{keeps, kept_payloads, kept_sync, kept_items}
use Rattle.scrub_kept.specs.Written.{tag_for, as_element, as_chunk}
use Rattle.scrub_ops.specs.declared.Op.{Op}
use Rattle.scrub_ops.specs.declared.Op.TheVariants.{Put, Open}
use Rattle.scrub_ops.specs.Ops.{op_bytes, some_bytes, ops_bytes, SomeFits}
use Rattle.runs.proofs.Stands.{part_length}
use Rattle.scrub_ops.proofs.Ops.{put_size, open_size}
use Rattle.std.specs.Prelude.{Option, Some, None}
use Rattle.scrub_plan.specs.Planned.{written, sized, item_plan, Planned, joined}

-- the plan by a tag for each name that stays
abbrev pub tag_item : (Name → Option ℕ) → Item → Option ℕ
tag_item tag (I.Single x) = tag x.name
tag_item tag (I.Inner x) = tag x.name
tag_item tag (I.Sync h) = None

unfoldable pub plan_by : (Name → Option ℕ) → List Item → Planned
plan_by tag [] = record { inner = 0; total = 0; ops = [] }
plan_by tag (x ∷ xs) = joined (item_plan x (tag_item tag x) (plan_by tag xs).inner) (plan_by tag xs)

inners : List Payload → List Item
inners xs = map (λ (x : Payload). I.Inner x) xs

element_long : (t : ℕ) (v : List ℕ) → 0 < length (element t (shortest (length v)) v)
element_long t v =
    let a = length-append (tag_bytes t) (form_bytes (shortest (length v)) (length v) ++ v) in
    let b = length_tag t in
    let c = tag_size_bounds t in
    omega arith

module _ (s : List ℕ) (labels : List (List ℕ)) (sh : Sheet) (ms : List Entry) where
  abbrev pub said : Payload → SaidPayload
  said x = meant_payload s labels x

  -- the new tag of a name that is kept
  abbrev pub new_tag : Name → Option ℕ
  new_tag n = cond (keeps sh (meant_name labels n)) (written (tag_for ms (meant_name labels n))) None

  -- a payload whose value lies in the pack, and which has a tag that can be written if it is kept
  pub record Lies (x : Payload) : Type 0 where
    pub ends : x.value_start + x.value_len ≤ length s
    pub tagged : keeps sh (meant_name labels x.name) ≡ true → (0 < tag_for ms (meant_name labels x.name)) × (tag_for ms (meant_name labels x.name) < 128 ^ 4)

  tag_some : (x : Payload) → Lies x → keeps sh (meant_name labels x.name) ≡ true → tag_for ms (meant_name labels x.name) ≡ 0 → ⊥
  tag_some x h e z = let g = h.tagged e in omega arith

  abbrev pub ItemLies : Item → Type 0
  ItemLies (I.Single x) = Lies x
  ItemLies (I.Inner x) = Lies x
  ItemLies (I.Sync h) = Unit

  abbrev bytes_of : List Payload → List ℕ
  bytes_of xs = elements_bytes (map (as_element ms) (kept_payloads sh (map said xs)))

  -- a kept payload
  put_bytes : (x : Payload) → Lies x → op_bytes s (Put (tag_for ms (meant_name labels x.name)) x.value_start x.value_len)
      ≡ element (tag_for ms (meant_name labels x.name)) (shortest (length (said x).value)) (said x).value
  unfolding op_bytes length_bytes
  put_bytes x h =
      let v = stretch s x.value_start x.value_len in
      ap (λ (n : ℕ). tag_bytes (tag_for ms (meant_name labels x.name)) ++ (form_bytes (shortest n) n ++ v)) (sym (part_length s x.value_start x.value_len h.ends))

  put_sized : (x : Payload) → Lies x → sized (tag_for ms (meant_name labels x.name)) x.value_len
      ≡ length (element (tag_for ms (meant_name labels x.name)) (shortest (length (said x).value)) (said x).value)
  put_sized x h = sym (put_size s (tag_for ms (meant_name labels x.name)) x.value_start x.value_len h.ends) ∙ ap length (put_bytes x h)

  record Inside (xs : List Payload) (rest : List Item) : Type 0 where
    pub bytes : ops_bytes s (plan_by new_tag (inners xs ++ rest)).ops ≡ bytes_of xs ++ ops_bytes s (plan_by new_tag rest).ops
    pub size : (plan_by new_tag (inners xs ++ rest)).inner ≡ length (bytes_of xs) + (plan_by new_tag rest).inner

  inside_flat : (xs : List Payload) (rest : List Item) → Each Lies xs → Inside xs rest
  unfolding plan_by item_plan those elements_bytes some_bytes ops_bytes inners
  inside_flat [] rest h = record { bytes = refl; size = let z : (plan_by new_tag rest).inner ≡ 0 + (plan_by new_tag rest).inner = omega arith in z }
  inside_flat (x ∷ xs) rest h =
      let i = inside_flat xs rest h.1 in
      let t = tag_for ms (meant_name labels x.name) in
      let e = element t (shortest (length (said x).value)) (said x).value in
      let pb = bytes_of xs in
      split (keeps sh (meant_name labels x.name))
      (λ a. let nz = tag_some x h.0 a in
      record {
        bytes = rw (a, ne_eqb t 0 nz) (ap₂ (λ (u v : List ℕ). u ++ v) (put_bytes x h.0) i.bytes ∙ sym (append_assoc e pb (ops_bytes s (plan_by new_tag rest).ops)));
        size = rw (a, ne_eqb t 0 nz) (let n = put_sized x h.0 in let m = length-append e pb in let z = i.size in omega arith);
      })
      (λ a. record { bytes = rw a i.bytes; size = rw a i.size })

  open_bytes : (o d : ℕ) (pb rest : List ℕ)
      → op_bytes s (Open (length pb) o d) ++ (pb ++ rest)
      ≡ element 2 (shortest (length (digits 256 2 o ++ (digits 256 2 d ++ pb)))) (digits 256 2 o ++ (digits 256 2 d ++ pb)) ++ rest
  unfolding op_bytes length_bytes
  open_bytes o d pb rest =
      let u = digits 256 2 o in
      let v = digits 256 2 d in
      let w = u ++ (v ++ pb) in
      let n : 4 + length pb ≡ length w =
      let a = length-append u (v ++ pb) in let b = length-append v pb in let c = length_digits 256 2 o in let e = length_digits 256 2 d in omega arith in
      ap (λ (m : ℕ). (tag_bytes 2 ++ (form_bytes (shortest m) m ++ (u ++ v))) ++ (pb ++ rest)) n ∙ simp append_assoc

  sync_flat : (o d n : ℕ) (ys : List SaidPayload) (ops : List (Option Op)) (r : List SaidItem) → n ≡ length (elements_bytes (map (as_element ms) ys))
      → ops_bytes s ops ≡ elements_bytes (map (as_element ms) ys) ++ chunks_bytes (map (as_chunk ms) r)
      → ops_bytes s (cond (eqb n 0) None (Some (Open n o d)) ∷ ops) ≡ chunks_bytes (map (as_chunk ms) (kept_sync o d ys r))
  unfolding kept_sync elements_bytes chunks_bytes some_bytes ops_bytes
  sync_flat o d n [] ops r e h = rw (eq-eqb n 0 e) h
  sync_flat o d n (y ∷ ys) ops r e h =
      let p = elements_bytes (map (as_element ms) (y ∷ ys)) in
      let el = element (tag_for ms y.name) (shortest (length y.value)) y.value in
      let q : length p ≡ length el + length (elements_bytes (map (as_element ms) ys)) = length-append el (elements_bytes (map (as_element ms) ys)) in
      let l = element_long (tag_for ms y.name) y.value in
      let z : n ≡ 0 → ⊥ = λ x. omega arith in
      rw (ne_eqb n 0 z) (ap₂ (λ (m : ℕ) (l : List ℕ). op_bytes s (Open m o d) ++ l) e h ∙ open_bytes o d p (chunks_bytes (map (as_chunk ms) r)))

  -- a payload outside a Sync leaves none inside
  none_inside : (x : Payload) (t : Option ℕ) (n : ℕ) → (item_plan (I.Single x) t n).inner ≡ 0
  unfolding item_plan
  none_inside x None n = refl
  none_inside x (Some t) n = refl

  no_inner : (ps : List Part) → (plan_by new_tag (slots ps)).inner ≡ 0
  unfolding plan_by slots item_plan
  no_inner [] = refl
  no_inner (one x ∷ ps) = none_inside x (new_tag x.name) (plan_by new_tag (slots ps)).inner
  no_inner (many h xs ∷ ps) = split (eqb (plan_by new_tag (map (λ (x : Payload). I.Inner x) xs ++ slots ps)).inner 0) (λ a. rw a) (λ a. rw a)

  two_long : length (tag_bytes 2) ≡ 1
  two_long = ap length (tag_short 2 (omega arith))

  sync_op : (h : Head) (n : ℕ) → (item_plan (I.Sync h) None n).op ≡ cond (eqb n 0) None (Some (Open n h.offset h.duration))
  unfolding item_plan
  sync_op h n = split (eqb n 0) (λ a. rw a) (λ a. rw a)

  -- the writes of all slots are the bytes of the kept items
  pub flat_items : (ps : List Part) → Each (PartItems ItemLies) ps
      → ops_bytes s (plan_by new_tag (slots ps)).ops ≡ chunks_bytes (map (as_chunk ms) (kept_items sh (map (meant_part s labels) ps)))
  unfolding plan_by slots item_plan kept_items chunks_bytes some_bytes ops_bytes inners
  flat_items [] h = refl
  flat_items (one x ∷ ps) h =
      let i = flat_items ps h.1 in
      let t = tag_for ms (meant_name labels x.name) in
      split (keeps sh (meant_name labels x.name))
      (λ a. rw (a, ne_eqb t 0 (tag_some x h.0 a)) (ap₂ (λ (u v : List ℕ). u ++ v) (put_bytes x h.0) i))
      (λ a. rw a i)
  flat_items (many hd xs ∷ ps) h =
      let i = inside_flat xs (slots ps) h.0.1 in
      let ys = kept_payloads sh (map said xs) in
      let n : (plan_by new_tag (inners xs ++ slots ps)).inner ≡ length (elements_bytes (map (as_element ms) ys)) =
      let a = i.size in let b = no_inner ps in omega arith in
      let m = (plan_by new_tag (inners xs ++ slots ps)).inner in
      ap (λ (o : Option Op). some_bytes s o ++ ops_bytes s (plan_by new_tag (inners xs ++ slots ps)).ops) (sync_op hd m)
      ∙ sync_flat hd.offset hd.duration m ys (plan_by new_tag (inners xs ++ slots ps)).ops (kept_items sh (map (meant_part s labels) ps)) n
      (i.bytes ∙ ap (λ (l : List ℕ). elements_bytes (map (as_element ms) ys) ++ l) (flat_items ps h.1))

  -- a place for each item
  pub plan_count : (xs : List Item) → length (plan_by new_tag xs).ops ≡ length xs
  unfolding plan_by
  plan_count [] = refl
  plan_count (x ∷ xs) = ap suc (plan_count xs)

  plan_size : (it : Item) (t : Option ℕ) (n : ℕ) → ItemLies it → (item_plan it t n).size ≡ length (some_bytes s (item_plan it t n).op)
  unfolding item_plan some_bytes
  plan_size (I.Single x) None n h = refl
  plan_size (I.Single x) (Some t) n h = sym (put_size s t x.value_start x.value_len h.ends)
  plan_size (I.Inner x) None n h = refl
  plan_size (I.Inner x) (Some t) n h = sym (put_size s t x.value_start x.value_len h.ends)
  plan_size (I.Sync hd) t n h =
      split (eqb n 0)
      (λ a. rw a)
      (λ a. rw a (let z = open_size s n hd.offset hd.duration in let y = two_long in omega arith))

  -- what was added up is the size of the writes
  pub total_size : (xs : List Item) → Each ItemLies xs → (plan_by new_tag xs).total ≡ length (ops_bytes s (plan_by new_tag xs).ops)
  unfolding plan_by ops_bytes
  total_size [] h = refl
  total_size (x ∷ xs) h =
      let p = plan_by new_tag xs in
      let st = item_plan x (tag_item new_tag x) p.inner in
      ap₂ (λ (a b : ℕ). a + b) (plan_size x (tag_item new_tag x) p.inner h.0) (total_size xs h.1)
      ∙ sym (length-append (some_bytes s st.op) (ops_bytes s p.ops))

  plan_inner : (it : Item) (t : Option ℕ) (n : ℕ) → (item_plan it t n).inner ≤ n + (item_plan it t n).size
  unfolding item_plan
  plan_inner (I.Single x) None n = omega arith
  plan_inner (I.Single x) (Some t) n = omega arith
  plan_inner (I.Inner x) None n = omega arith
  plan_inner (I.Inner x) (Some t) n = omega arith
  plan_inner (I.Sync hd) t n = split (eqb n 0) (λ a. rw a (omega arith)) (λ a. rw a (omega arith))

  inner_most : (xs : List Item) → (plan_by new_tag xs).inner ≤ (plan_by new_tag xs).total
  unfolding plan_by
  inner_most [] = omega arith
  inner_most (x ∷ xs) =
      let p = plan_by new_tag xs in
      let i = inner_most xs in
      let j = plan_inner x (tag_item new_tag x) p.inner in
      omega arith

  op_fits : (it : Item) (n : ℕ) → ItemLies it → n < 3000000 → SomeFits s (item_plan it (tag_item new_tag it) n).op
  unfolding item_plan
  op_fits (I.Single x) n h b =
      split (keeps sh (meant_name labels x.name)) (λ a. rw (a, ne_eqb (tag_for ms (meant_name labels x.name)) 0 (tag_some x h a)) ((h.tagged a).1, h.ends)) (λ a. rw a tt)
  op_fits (I.Inner x) n h b =
      split (keeps sh (meant_name labels x.name)) (λ a. rw (a, ne_eqb (tag_for ms (meant_name labels x.name)) 0 (tag_some x h a)) ((h.tagged a).1, h.ends)) (λ a. rw a tt)
  op_fits (I.Sync hd) n h b = split (eqb n 0) (λ a. rw a tt) (λ a. rw a (let z : 4 + n < 2 ^ 32 = omega arith in z))

  -- the writes can be made
  pub ops_fit : (xs : List Item) → Each ItemLies xs → (plan_by new_tag xs).total < 3000000 → Each (SomeFits s) (plan_by new_tag xs).ops
  unfolding plan_by
  ops_fit [] h b = tt
  ops_fit (x ∷ xs) h b =
      let p = plan_by new_tag xs in
      let i = inner_most xs in
      let l : p.total < 3000000 = omega arith in
      (op_fits x p.inner h.0 (omega arith), ops_fit xs h.1 l)
