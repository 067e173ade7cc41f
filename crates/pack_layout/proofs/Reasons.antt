-- Why a pack can be refused: the reasons from BIG to CRC, numbers 1 to 13.
use mathlib.Core.Path.{◌≡◌}
use mathlib.Core.List.{List}
use Prim.Native.Nat.{ℕ, ◌≤◌}
use native.Mathlib.Omega.{arith}
use Rattle.runs.specs.Digits.{Bytes}
use Rattle.refusals.specs.declared.Refusal.{Refusal}
use Rattle.refusals.specs.Refusals.{number_of}
use Rattle.refusals.specs.Outcomes.{refused}
use Rattle.pack.specs.Reading.{reading}
use Rattle.pack_layout.specs.Layout.{Entry}
use Rattle.pack_layout.specs.Refused.{NoElement, runs_out, bad_tag, bad_length, NoItem, item_broken, late_config, early_crc, item_too_many, long_crc, wrong_crc, empty_sync, NoInner, inner_broken, inner_fixed, inner_too_many, NoEntry, entry_too_many, entry_bad_tag, entry_runs_out, entry_taken, NoConfig, config_short, config_entry, Refused, too_big, too_short, other_key, pack_bad_length, pack_runs_out, pack_trails, in_config, at_item, in_sync}
use Rattle.pack_layout.proofs.StopsPack.{refused_says}

element_reason : {w : List ℕ} {why : Refusal} → NoElement w why → number_of why ≤ 13
element_reason (runs_out t form v tagged fits lacks) = omega arith
element_reason (bad_tag n) = omega arith
element_reason (bad_length t z tagged is n) = omega arith

item_reason : {start content w : List ℕ} {used : ℕ} {why : Refusal} → NoItem start content w used why → number_of why ≤ 13
item_reason (item_broken n) = element_reason n
item_reason (late_config v rest has some) = omega arith
item_reason (early_crc v rest has some) = omega arith
item_reason (item_too_many t v rest has config crc full) = omega arith
item_reason (long_crc v has long) = omega arith
item_reason (wrong_crc v has long other) = omega arith
item_reason (empty_sync v rest has room few) = omega arith

inner_reason : {z : List ℕ} {used : ℕ} {why : Refusal} → NoInner z used why → number_of why ≤ 13
inner_reason (inner_broken n) = element_reason n
inner_reason (inner_fixed t v rest has fixed) = omega arith
inner_reason (inner_too_many t v rest has other full) = omega arith

entry_reason : {ms : List Entry} {z : List ℕ} {why : Refusal} → NoEntry ms z why → number_of why ≤ 13
entry_reason (entry_too_many some full) = omega arith
entry_reason (entry_bad_tag few n) = omega arith
entry_reason (entry_runs_out few t label fits long lacks) = omega arith
entry_reason (entry_taken few t label rest fits long is clash) = omega arith

config_reason : {c : List ℕ} {why : Refusal} → NoConfig c why → number_of why ≤ 13
config_reason (config_short few) = omega arith
config_reason (config_entry o ms z fits well is n) = entry_reason n

pack_reason : {s : List ℕ} {why : Refusal} {place : ℕ} → Refused s why place → number_of why ≤ 13
pack_reason (too_big h) = omega arith
pack_reason (too_short h) = omega arith
pack_reason (other_key small some other) = omega arith
pack_reason (pack_bad_length small z is n) = omega arith
pack_reason (pack_runs_out small some form v fits lacks) = omega arith
pack_reason (pack_trails small form v more fits some is) = omega arith
pack_reason (in_config start value c rest framed has n) = config_reason n
pack_reason (at_item start content w framed laid n) = item_reason n
pack_reason (in_sync start content w rest o d xs z framed laid offset duration well room has n) = inner_reason n

pub reading_reason : (s : List ℕ) → Bytes s → (why : Refusal) (place : ℕ) → reading s ≡ refused why place → number_of why ≤ 13
reading_reason s bytes why place e = pack_reason (refused_says s bytes why place e)
