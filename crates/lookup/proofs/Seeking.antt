-- What the loops over the items of a pack and over the inside of a Sync keep: what is left (crates/pack/proofs), and what was found so far.
use mathlib.Core.Path.{◌≡◌, refl, sym, ap, ap₂, subst, ◌∙◌}
use mathlib.Core.List.{List, []}
use mathlib.Core.Bool.{Bool}
use Prim.Native.Nat.{ℕ, ◌+◌, ◌-◌, ◌<◌, ◌≤◌}
use native.Mathlib.Omega.{arith}
use lib.ListN.{length, take, drop}
use Rattle.std.specs.Prelude.{Option, None, Result, Ok, Err}
use Rattle.std.specs.Option.{option_or}
use Rattle.runs.specs.Those.{those}
use Rattle.runs.proofs.Cases.{absurd_eq}
use Rattle.refusals.specs.declared.Refusal.{Refusal}
use Rattle.refusals.specs.declared.Refused.{Refused}
use Rattle.refusals.specs.Refusals.{refused_at}
use Rattle.refusals.specs.Outcomes.{Outcome, fine, refused, answered, Answer}
use Rattle.refusals.proofs.Lent.{answers, counts}
use Rattle.pack.specs.Fixed.{item_cap}
use Rattle.pack.specs.Payloads.{whole, wrong, inner_at, Ground, ground_of, inners_from}
use Rattle.pack.specs.Items.{Part, plain, opens, item_at, sync_ground}
use Rattle.pack.specs.Inside.{InsideTold}
use Rattle.pack.specs.declared.Name.{Name}
use Rattle.pack.specs.declared.Payload.{Payload}
use Rattle.pack.proofs.Inside.{WithinSync, inside_begins, inside_on, inside_ends, inside_stops}
use Rattle.pack.proofs.Coming.{Coming, coming_begins, coming_plain, inside_part, inside_enough, sync_on}
use Rattle.lookup.specs.Lookup.{payloads_of}
use Rattle.lookup.specs.Sought.{first_in, of_tag, Tells, inside_of, InsideSought}
use Rattle.lookup.specs.declared.Inside.{Inside}
use Rattle.lookup.specs.declared.Spot.{Spot}
use Rattle.lookup.proofs.Steps.{payload_more, plain_more, sync_more}

-- THE INSIDE OF A SYNC

pub record SeekingInside (q : List ℕ) (grounds : Ground) (test : Name → Bool) (base fuel used n at : ℕ) (first : Option Spot) : Type 0 where
  pub xs : List Payload
  pub inside : WithinSync q grounds base fuel used xs n at
  pub found : first ≡ first_in test xs

-- for any fuel that is enough
abbrev pub Within : List ℕ → Ground → (Name → Bool) → ℕ → ℕ → ℕ → ℕ → Option Spot → Type 0
Within q grounds test base used n at first = (fuel : ℕ) → length q ≤ fuel → SeekingInside q grounds test base fuel used n at first

module _ {q : List ℕ} {grounds : Ground} {test : Name → Bool} {base used : ℕ} where
  pub seek_begins : used ≤ 64 → {first : Option Spot} → first ≡ None → Within q grounds test base used used 0 first
  unfolding those
  seek_begins few is fuel enough = record { xs = []; inside = inside_begins q grounds base fuel used few enough; found = is }

  module _ {n at : ℕ} {first : Option Spot} (g : Within q grounds test base used n at first) where
    pub seek_on : (wanted : Option ℕ) → Tells grounds.tags test wanted → at < length q → {t v l : ℕ} → inner_at q at n ≡ whole t v l → {next : Option Spot}
        → next ≡ option_or first (of_tag wanted t (base + v) l grounds.total) → Within q grounds test base used (n + 1) (v + l) next
    seek_on wanted tells h {t} {v} {l} e is fuel enough =
        let w = g fuel enough in
        record { xs = _; inside = inside_on w.inside h e; found = payload_more test grounds wanted tells w.xs (base + at) t (base + v) l w.found is }

    pub seek_done : length q ≤ at → InsideSought q grounds test base used (Ok (record { count = n; first = first }))
    seek_done h = record {
      told = λ fuel enough.
          let w = g fuel enough in
          counts (inside_of test used) (inside_ends w.inside h) (ap₂ (λ (k : ℕ) (x : Option Spot). Ok (record { count = k; first = x })) (sym w.inside.long) w.found);
      few = λ x e. let is : n ≡ x.count = cc in omega (arith, is, (g (length q) (omega arith)).inside.room);
    }

    pub seek_stops : at < length q → {why : Refusal} → inner_at q at n ≡ wrong why → {r : Result Inside Refused} → r ≡ Err (refused_at why (base + at)) → InsideSought q grounds test base used r
    seek_stops h {why} e is = record {
      told = λ fuel enough. answers (inside_of test used) (inside_stops (g fuel enough).inside h e) is;
      few = λ x d. absurd_eq (cc);
    }

-- of an inside that was sought, how many items and payloads there are
abbrev pub counted : Result Inside Refused → Answer
counted (Ok x) = Ok x.count
counted (Err e) = Err e

counted_is : (test : Name → Bool) (used : ℕ) (o : Outcome (List Payload)) → counted (answered (inside_of test used) o) ≡ answered (λ (xs : List Payload). used + length xs) o
unfolding answered
counted_is test used (fine xs) = refl
counted_is test used (refused why p) = refl

counted_few : (r : Result Inside Refused) → ((x : Inside) → r ≡ Ok x → x.count ≤ item_cap) → (n : ℕ) → counted r ≡ Ok n → n ≤ item_cap
counted_few (Ok x) few n e = let is : x.count ≡ n = cc in omega (arith, is, few x refl)
counted_few (Err y) few n e = absurd_eq (cc)

pub inside_told : {q : List ℕ} {grounds : Ground} {test : Name → Bool} {base used : ℕ} {r : Result Inside Refused} → InsideSought q grounds test base used r
    → InsideTold q grounds base used (counted r)
inside_told {q} {grounds} {test} {base} {used} {r} i = record {
  told = λ fuel enough. ap counted (i.told fuel enough) ∙ counted_is test used (inners_from fuel q grounds base 0 used);
  few = counted_few r i.few;
}

-- an inside that was sought by a total offset is sought by what that is
pub on_sum : {q tags : List ℕ} {test : Name → Bool} {base used own total : ℕ} {r : Result Inside Refused} → own ≡ total → InsideSought q (ground_of tags own) test base used r
    → InsideSought q (ground_of tags total) test base used r
on_sum {q} {tags} {test} {base} {used} {r = r} e = subst (λ (n : ℕ). InsideSought q (ground_of tags n) test base used r) e

-- THE ITEMS

pub record SeekingItems (s : List ℕ) (grounds : Ground) (test : Name → Bool) (from n at : ℕ) (first : Option Spot) : Type 0 where
  pub parts : List Part
  pub coming : Coming s grounds from parts n at
  pub found : first ≡ first_in test (payloads_of parts)

pub items_begin : (s : List ℕ) (grounds : Ground) (test : Name → Bool) (from : ℕ) {first : Option Spot} → first ≡ None → SeekingItems s grounds test from 0 from first
unfolding payloads_of those
items_begin s grounds test from is = record { parts = []; coming = coming_begins s grounds from; found = is }

module _ {s : List ℕ} {grounds : Ground} {test : Name → Bool} {from n at : ℕ} {first : Option Spot} (g : SeekingItems s grounds test from n at first) (h : at < length s) where
  pub plain_on : (wanted : Option ℕ) → Tells grounds.tags test wanted → {t v l : ℕ} → item_at s at n ≡ plain t v l → {next : Option Spot} → next ≡ option_or first (of_tag wanted t v l grounds.total)
      → SeekingItems s grounds test from (n + 1) (v + l) next
  plain_on wanted tells {t} {v} {l} e is =
      record { parts = _; coming = coming_plain g.coming h e; found = plain_more test grounds wanted tells g.parts at t v l g.found is }

  -- a Sync, by what was sought in its inside, as the code cuts it
  pub open_on : {v l : ℕ} → item_at s at n ≡ opens v l → {r : Result Inside Refused} → InsideSought (take (v + l - (v + 4)) (drop (v + 4) s)) (sync_ground s grounds v) test (v + 4) (n + 1) r
      → {x : Inside} → r ≡ Ok x → (x.count ≡ n + 1 → ⊥) → {next : Option Spot} → next ≡ option_or first x.first → SeekingItems s grounds test from x.count (v + l) next
  open_on {v} {l} e {r} i {x} d some is =
      let on = sync_on g.coming h e (inside_told i) (ap counted d) some in
      let own = subst (λ (q : List ℕ). InsideSought q (sync_ground s grounds v) test (v + 4) (n + 1) r) (inside_part s v l) i in
      let inner : Ok x ≡ Ok (inside_of test (n + 1) on.0) = sym d ∙ own.told l (inside_enough s at n v l e) ∙ sym (counts (inside_of test (n + 1)) on.1 refl) in
      let same : x ≡ inside_of test (n + 1) on.0 = cc in
      record { parts = _; coming = on.3; found = sync_more test g.parts _ on.0 g.found (ap (λ (y : Inside). y.first) same) is }
