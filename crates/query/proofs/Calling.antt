-- The calls list and read: the check's refusal, or the answer of the accepted image.
use Rattle.refusals.specs.declared.Refusal.{Refusal}
use Rattle.std.specs.Prelude.{Result, Ok, Err, Option, Some, None}
use Rattle.std.specs.Option.{ok_or}
use Rattle.refusals.specs.declared.Fault.TheVariants as fault
use mathlib.Core.Path.{◌≡◌, refl, ap, ap₂, sym, ◌∙◌, subst}
use mathlib.Core.List.{List, ◌++◌}
use Prim.Native.Nat.{ℕ, ◌*◌, ◌<◌}
use lib.ListN.{length, get_or, drop}
use Rattle.geometry.specs.declared.Geometry.{Geometry}
use Rattle.geometry.specs.Geometry.{geometry_of}
use Rattle.geometry.specs.NumberLaws.{bytes_from}
use Rattle.rules.specs.declared.Totals.{Totals}
use Rattle.rules.specs.declared.Line.{Line}
use Rattle.rules.specs.Result.{Res, ok, err, IsOk}
use Rattle.rules.proofs.ResultLaws.{clash}
use Rattle.rules.specs.Chain.{views_of}
use Rattle.rules.specs.Owners.{table_with}
use Rattle.owners.specs.Records.{records_of}
use Rattle.owners.specs.RecordLaws.{part_back}
use Rattle.rules.specs.Listing.{lines_of, line_at}
use Rattle.rules.specs.Calls.{read_bytes, length_of, filled, asked, list_call, read_call}
use Rattle.rules.specs.Promises.{TellsTree}
use Rattle.reading_theorems.specs.CheckCall.{asked_tells, tells_said}
use Rattle.listing.specs.KnownTree.{HasImage, Tells}
use Rattle.volume.specs.Scans.{TableChecked}
use Rattle.volume.proofs.CheckLaws.{asked_done, asked_refused}
use Rattle.rules.specs.Answers.{refused, answer_of}
use Rattle.query.specs.Questions.{LineOf, PathRead}

-- the line found, or 15
pub line_answer : (k : ℕ) (xs : List Line) (o : Option Line) → Tells k xs o → answer_of (ok_or o (record { 0 = fault.Absent; 1 = 0 })) ≡ line_at k xs
line_answer k xs (Some x) t = sym t
line_answer k xs None t = sym t

-- what the length told and the output come from
length_ok : (r : Res (List ℕ)) (n : ℕ) → length_of r ≡ ok n → IsOk r
length_ok (ok bytes) n e = (bytes, refl)
length_ok (err m p) n e = clash e

-- ---- an image in its geometry, checked; `part` is the part of the table that was lent, come back
module _ (P N : ℕ) (image table : List ℕ) (g : Geometry) (e : geometry_of P N (length image) (length table) ≡ Some g) (c : Result Totals Refusal) (part : List ℕ) (K : TableChecked g (views_of g image) c (records_of part)) where
  module _ (d : Totals) (q : c ≡ Ok d) where
    done : TableChecked g (views_of g image) (Ok d) (records_of part)
    done = subst (λ (x : Result Totals Refusal). TableChecked g (views_of g image) x (records_of part)) q K

    pub is_accepted : HasImage g (views_of g image)
    is_accepted = record { image = done.0; accepted = done.1 }

  module _ (l : length part ≡ 4 * g.pages) (h : (i : ℕ) → get_or (part ++ drop (4 * g.pages) table) i 0 < 256) where
    abbrev left : List ℕ
    left = part ++ drop (4 * g.pages) table

    back : left ≡ table_with (records_of part) table
    back = part_back g.pages part table l h

    module _ (y : Refusal) (q : c ≡ Err y) where
      refusing : TableChecked g (views_of g image) (Err y) (records_of part)
      refusing = subst (λ (x : Result Totals Refusal). TableChecked g (views_of g image) x (records_of part)) q K

      pub list_fault : (x : Res Line) → x ≡ refused y → (k : ℕ) → (x, left) ≡ list_call P N image table k
      unfolding list_call
      list_fault x h k = ap₂ (λ (x : Res Line) (z : List ℕ). (x, z)) h back ∙ sym (asked_refused P N image table g e (λ i. line_at k (lines_of 0 i.tree)) y (records_of part) refusing)

      pub read_fault : (x : Res ℕ) → x ≡ refused y → (path out : List ℕ) → (x, out, left) ≡ read_call P N image table path out
      unfolding read_call
      read_fault x h path out = ap₂ (λ (x : Res ℕ) (z : List ℕ). (x, out, z)) h back
          ∙ sym (ap (λ (x : Res (List ℕ) × List ℕ). (length_of x.0, filled out x.0, x.1)) (asked_refused P N image table g e (read_bytes path out) y (records_of part) refusing))

    module _ (d : Totals) (q : c ≡ Ok d) where
      pub list_done : (k : ℕ) (r : Result Line Refusal) → LineOf g (views_of g image) k r → (answer_of r, left) ≡ list_call P N image table k
      unfolding list_call
      list_done k r a =
          let t = done d q in
          ap₂ (λ (x : Res Line) (y : List ℕ). (x, y)) (a t.0 t.1) back ∙ sym (asked_done P N image table g e (λ i. line_at k (lines_of 0 i.tree)) d (records_of part) t)

      pub read_done : (path out : List ℕ) (r : Result ℕ Refusal) (after : List ℕ) → PathRead g (views_of g image) path out r after → (answer_of r, after, left) ≡ read_call P N image table path out
      unfolding read_call
      read_done path out r after a =
          let t = done d q in
          ap₂ (λ (x : Res ℕ × List ℕ) (y : List ℕ). (x.0, x.1, y)) (a t.0 t.1) back
          ∙ sym (ap (λ (x : Res (List ℕ) × List ℕ). (length_of x.0, filled out x.0, x.1)) (asked_done P N image table g e (read_bytes path out) d (records_of part) t))

-- ---- the tree of the well-formed image
module _ (P N : ℕ) (image table : List ℕ) (h : (i : ℕ) → get_or image i 0 < 256) where
  pub lists_tree : (k : ℕ) (r : Result Line Refusal) (u : List ℕ) → (answer_of r, u) ≡ list_call P N image table k
      → TellsTree P N image table (λ i. line_at k (lines_of 0 i.tree)) (λ x. answer_of r ≡ x) (IsOk (answer_of r))
  unfolding list_call
  lists_tree k r u e =
      let q = ap (λ (x : Res Line × List ℕ). x.0) e in
      tells_said (λ x t. q ∙ t) (λ d. (d.0, sym q ∙ d.1)) (asked_tells P N image table (bytes_from image h) (λ i. line_at k (lines_of 0 i.tree)))

  pub reads_tree : (path out : List ℕ) (r : Result ℕ Refusal) (after u : List ℕ) → (answer_of r, after, u) ≡ read_call P N image table path out
      → TellsTree P N image table (read_bytes path out) (λ x. (answer_of r ≡ length_of x) × (after ≡ filled out x)) (IsOk (answer_of r))
  unfolding read_call
  reads_tree path out r after u e =
      let q : answer_of r ≡ length_of (asked P N image table (read_bytes path out)).0 = ap (λ (x : Res ℕ × List ℕ × List ℕ). x.0) e in
      let o : after ≡ filled out (asked P N image table (read_bytes path out)).0 = ap (λ (x : Res ℕ × List ℕ × List ℕ). x.1) e in
      tells_said (λ x t. (q ∙ ap length_of t, o ∙ ap (filled out) t)) (λ d. length_ok (asked P N image table (read_bytes path out)).0 d.0 (sym q ∙ d.1))
      (asked_tells P N image table (bytes_from image h) (read_bytes path out))
