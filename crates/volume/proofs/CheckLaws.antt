-- Both halves together: the bitmap compared, the table filled, the call.
use Rattle.refusals.specs.declared.Refusal.{Refusal}
use Rattle.std.specs.Prelude.{true, false, is_err, Result, Ok, Err, Some, Option, None}
use mathlib.Core.Path.{◌≡◌, refl, ap, ap₂, sym, ◌∙◌, subst}
use mathlib.Core.List.{List, ◌++◌}
use Prim.Native.Nat.{ℕ, ◌+◌, ◌-◌, ◌*◌, ◌≤◌, ◌<◌}
use native.Mathlib.Omega.{arith}
use lib.ListN.{length, get_or, take, drop}
use Rattle.geometry.specs.declared.Geometry.{Geometry}
use Rattle.geometry.specs.Geometry.{geometry_of, Fit}
use Rattle.geometry.specs.Page.{page_of}
use Rattle.geometry.specs.PageLaws.{page_length}
use Rattle.geometry.specs.NumberLaws.{bytes_from}
use Rattle.packet.specs.Packet.{View, view_of}
use Rattle.rules.specs.declared.Totals.{Totals}
use Rattle.rules.specs.Result.{Res, ok, err, IsOk, and_then}
use Rattle.rules.specs.Promises.{Accepts}
use Rattle.rules.proofs.ResultLaws.{then_ok, then_err}
use Rattle.rules.specs.Chain.{Views, views_of}
use Rattle.rules.specs.Tree.{Image, used}
use Rattle.rules.specs.Owners.{OwnerRecord, owners, totals, table_with, table_after}
use Rattle.rules.specs.Check.{Scan, judge_bits, scan, check}
use Rattle.rules.specs.Calls.{asked, check_call}
use Rattle.rules.proofs.CallLaws.{asked_fits}
use Rattle.reading_theorems.specs.CheckCall.{check_accepts}
use Rattle.directory.specs.declared.control.Root.{Root}
use Rattle.directory.specs.declared.control.Root.TheVariants as root
use Rattle.owners.specs.Records.{records_of}
use Rattle.owners.specs.RecordLaws.{part_back}
use Rattle.bitmap.specs.Bits.{Compares}
use Rattle.rules.specs.Answers.{answer_of, refused}
use Rattle.owners.specs.Owned.{all_free}
use Rattle.volume.specs.Scans.{ImageJudged, root_of, Scanned, BitsCompared, TableChecked}
use Rattle.volume.proofs.ScanLaws.{scan_local, scan_remote, raw_local, RawFile, raw_file, check_refused, check_differs, check_same, scan_table}
use Rattle.chain.specs.KnownChain.{KnownChain}

-- ---- the bitmap compared
pub on_raw : (raw bytes used : List ℕ) (r : Option ℕ) → raw ≡ bytes → Compares (judge_bits bytes used) r → Compares (judge_bits raw used) r
on_raw raw bytes used r e k = subst (λ (x : List ℕ). Compares (judge_bits x used) r) (sym e) k

pub field_inside : (g : Geometry) (image page : List ℕ) → Fit g image → page ≡ page_of g 0 image → 3 + g.width + 4 ≤ length page
field_inside g image page f e = omega (arith, ap length e, page_length g image 0 f (omega (arith, f.valid.some)), f.valid.least, f.valid.two)

pub local_raw : (g : Geometry) (image page : List ℕ) (x : Root) (s : Scan) → ok x ≡ root_of g (view_of g image 0) → x ≡ root.Local → scan g (views_of g image) ≡ ok s → page ≡ page_of g 0 image
    → s.raw ≡ take (3 + g.width + 4 - (3 + g.width)) (drop (3 + g.width) page)
local_raw g image page x s q i e k =
    let n : 4 ≡ 3 + g.width + 4 - (3 + g.width) = omega arith in
    raw_local g image (scan_local g (views_of g image) x q i) s e ∙ ap₂ (λ (a : ℕ) (y : List ℕ). take a (drop (3 + g.width) y)) n (sym k)

pub remote_raw : (g : Geometry) (vs : Views) (x : Root) (start count : ℕ) (s : Scan) → ok x ≡ root_of g (vs.pages 0) → x ≡ root.Remote start count → scan g vs ≡ ok s → RawFile g vs.pages start s
remote_raw g vs x start count s q i e = raw_file g vs start count (scan_remote g vs x start count q i) s e

pub remote_known : (g : Geometry) (v : View) (start : ℕ) (s : Scan) → RawFile g v start s → KnownChain g v start
remote_known g v start s k = record { links = k.links; chain = k.chain }

-- ---- the table
pub record Done (g : Geometry) (vs : Views) (d : Totals) (u : List OwnerRecord) : Type 0 where
  pub scanned : Scan
  pub scan_is : scan g vs ≡ ok scanned
  pub totals_are : d ≡ totals scanned.image
  pub table_is : u ≡ owners g.pages scanned.image

pub scan_done : (g : Geometry) (vs : Views) (r : Result Totals Refusal) (u : List OwnerRecord) (d : Totals) → Scanned g vs r u → r ≡ Ok d → Done g vs d u
scan_done g vs r u d k i =
    let a : Scanned g vs (Ok d) u = subst (λ (x : Result Totals Refusal). Scanned g vs x u) i k in
    record { scanned = a.0; scan_is = a.1; totals_are = a.2; table_is = a.3 }

pub scan_fault : (g : Geometry) (vs : Views) (r : Result Totals Refusal) (u : List OwnerRecord) (z : Refusal) → Scanned g vs r u → r ≡ Err z → check g vs ≡ refused z
scan_fault g vs r u z k i = check_refused g vs _ _ (subst (λ (x : Result Totals Refusal). Scanned g vs x u) i k)

module _ (g : Geometry) (vs : Views) (d : Totals) (u : List OwnerRecord) (a : Done g vs d u) (r : Option ℕ) (k : BitsCompared g vs u r) where
  judged : Compares (judge_bits a.scanned.raw (used a.scanned.image)) r
  judged = k a.scanned a.scan_is (used a.scanned.image) (scan_table g vs a.scanned a.scan_is u a.table_is)

  pub table_differs : (b : ℕ) → r ≡ Some b → check g vs ≡ err 13 b
  table_differs b i = check_differs g vs a.scanned a.scan_is b (subst (λ (x : Option ℕ). Compares (judge_bits a.scanned.raw (used a.scanned.image)) x) i judged)

  pub table_same : r ≡ None → (i : Image) × (check g vs ≡ ok i) × (d ≡ totals i) × (u ≡ owners g.pages i)
  table_same i =
      (a.scanned.image, check_same g vs a.scanned a.scan_is (subst (λ (x : Option ℕ). Compares (judge_bits a.scanned.raw (used a.scanned.image)) x) i judged), a.totals_are, a.table_is)

-- the table after the check: that of an accepted image, else an empty one
pub kept : (g : Geometry) (vs : Views) (r : Result Totals Refusal) (u : List OwnerRecord) → ImageJudged g vs r u → is_err r ≡ false → TableChecked g vs r u
kept g vs (Ok d) u k e = k
kept g vs (Err z) u k e = absurd (mathlib.Core.Bool.false≢true (sym e))

pub emptied : (g : Geometry) (vs : Views) (r : Result Totals Refusal) (u v : List OwnerRecord) → ImageJudged g vs r u → is_err r ≡ true → v ≡ all_free g.pages → TableChecked g vs r v
emptied g vs (Ok d) u v k e z = absurd (mathlib.Core.Bool.false≢true e)
emptied g vs (Err x) u v k e z = (k, z)

pub refused_table : (g : Geometry) (vs : Views) (r : Result Totals Refusal) (u v : List OwnerRecord) → ImageJudged g vs r u → (z : Refusal) → r ≡ Err z → v ≡ all_free g.pages → TableChecked g vs (Err z) v
refused_table g vs r u v k z e f = subst (λ (x : Result Totals Refusal). TableChecked g vs x v) e (emptied g vs r u v k (ap (λ (x : Result Totals Refusal). is_err x) e) f)

pub not_err : (r : Result Totals Refusal) → ((z : Refusal) → r ≡ Err z → ⊥) → is_err r ≡ false
not_err (Ok d) n = refl
not_err (Err z) n = absurd (n z refl)

-- ---- the call
module _ {A : Type 0} (P N : ℕ) (image table : List ℕ) (g : Geometry) (e : geometry_of P N (length image) (length table) ≡ Some g) (question : Image → Res A) where
  pub asked_done : (d : Totals) (u : List OwnerRecord) (k : TableChecked g (views_of g image) (Ok d) u) → asked P N image table question ≡ (question k.0, table_with u table)
  unfolding table_after
  asked_done d u k = asked_fits P N image table g e question ∙ ap (λ (x : Res Image). (and_then x question, table_after g.pages x table)) k.1
      ∙ ap₂ (λ (x : Res A) (y : List OwnerRecord). (x, table_with y table)) (then_ok k.0 question) (sym k.3)

  pub asked_refused : (z : Refusal) (u : List OwnerRecord) → TableChecked g (views_of g image) (Err z) u → asked P N image table question ≡ (refused z, table_with u table)
  unfolding table_after
  asked_refused z u k = asked_fits P N image table g e question ∙ ap (λ (x : Res Image). (and_then x question, table_after g.pages x table)) k.0
      ∙ ap₂ (λ (x : Res A) (y : List OwnerRecord). (x, table_with y table)) (then_err _ _ question) (sym k.1)

-- the part of the table that was lent, come back
pub checked : (P N : ℕ) (image table : List ℕ) (g : Geometry) → geometry_of P N (length image) (length table) ≡ Some g → (r : Result Totals Refusal) (part : List ℕ) → length part ≡ 4 * g.pages
    → ((i : ℕ) → get_or (part ++ drop (4 * g.pages) table) i 0 < 256) → TableChecked g (views_of g image) r (records_of part) → (answer_of r, part ++ drop (4 * g.pages) table) ≡ check_call P N image table
unfolding check_call
checked P N image table g e (Ok d) part l h k =
    ap₂ (λ (x : Totals) (y : List ℕ). (ok x, y)) k.2 (part_back g.pages part table l h) ∙ sym (asked_done P N image table g e (λ i. ok (totals i)) d (records_of part) k)
checked P N image table g e (Err z) part l h k =
    ap (λ (y : List ℕ). (refused z, y)) (part_back g.pages part table l h) ∙ sym (asked_refused P N image table g e (λ i. ok (totals i)) z (records_of part) k)

-- what a call that answers so accepts
pub accepts : (P N : ℕ) (image table : List ℕ) → ((i : ℕ) → get_or image i 0 < 256) → (r : Result Totals Refusal) (u : List ℕ) → (answer_of r, u) ≡ check_call P N image table → Accepts P N image table (IsOk (answer_of r))
accepts P N image table h r u e =
    let k = check_accepts P N image table (bytes_from image h) in
    let q : answer_of r ≡ (check_call P N image table).0 = ap (λ (x : Res Totals × List ℕ). x.0) e in
    (λ x. k.0 (x.0, sym q ∙ x.1), λ w. let y = k.1 w in (y.0, q ∙ y.1))
