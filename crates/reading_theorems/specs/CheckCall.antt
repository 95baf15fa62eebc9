-- The calls: check answers 0 exactly when the image is well formed in its geometry; list and read are answered from its tree.
use Rattle.std.specs.Prelude.{Option, Some, None, ◌≡◌, refl, List, ℕ, length}
use Rattle.std.proofs.Common.{ap, sym, ◌∙◌}
use Rattle.geometry.specs.declared.Geometry.{Geometry}
use Rattle.geometry.specs.Geometry.{geometry_of}
use Rattle.geometry.specs.Number.{Bytes}
use Rattle.geometry.specs.ShapeLaws.{fit_of}
use Rattle.rules.specs.Result.{Res, ok, IsOk, and_then}
use Rattle.rules.proofs.ResultLaws.{clash, on_then, then_ok}
use Rattle.rules.specs.Tree.{Image}
use Rattle.rules.specs.Owners.{totals}
use Rattle.rules.specs.Calls.{asked, check_call}
use Rattle.rules.proofs.CallLaws.{asked_fits, asked_invalid}
use Rattle.rules.specs.Demand2.{WellFormedAt}
use Rattle.rules.specs.Promises.{Accepts, TellsTree}
use Rattle.reading_theorems.specs.Accepted.{accepted_iff}

module _ (P N : ℕ) (image table : List ℕ) (bytes : Bytes image) where
  module _ {A : Type 0} (question : Image → Res A) where
    -- a question about a well-formed image is answered from its tree
    pub asked_formed : (w : WellFormedAt P N image table) → (asked P N image table question).0 ≡ question w.reading
    asked_formed w =
        let a = (accepted_iff w.geometry image (fit_of P N image table w.geometry w.right) bytes w.reading).1 w.formed in
        ap (λ (x : Res A × List ℕ). x.0) (asked_fits P N image table w.geometry w.right question) ∙ ap (λ (x : Res Image). and_then x question) a ∙ then_ok w.reading question

    -- and only a well-formed image's is
    pub asked_answered : (x : A) → (asked P N image table question).0 ≡ ok x → WellFormedAt P N image table
    asked_answered x q = go (geometry_of P N (length image) (length table)) refl
      where
        go : (s : Option Geometry) → geometry_of P N (length image) (length table) ≡ s → WellFormedAt P N image table
        go None e = clash (sym (ap (λ (y : Res A × List ℕ). y.0) (asked_invalid P N image table e question)) ∙ q)
        go (Some g) e = on_then _ _ _ (sym (ap (λ (y : Res A × List ℕ). y.0) (asked_fits P N image table g e question)) ∙ q) λ i a _.
            record { geometry = g; right = e; reading = i; formed = (accepted_iff g image (fit_of P N image table g e) bytes i).0 a }

    pub asked_tells : TellsTree P N image table question (λ r. (asked P N image table question).0 ≡ r) (IsOk (asked P N image table question).0)
    asked_tells = record { tells = asked_formed; formed = λ d. asked_answered d.0 d.1 }

  -- check: 0 exactly when well formed
  pub check_accepts : Accepts P N image table (IsOk (check_call P N image table).0)
  unfolding check_call
  check_accepts = (λ x. asked_answered (λ i. ok (totals i)) x.0 x.1, λ w. (totals w.reading, asked_formed (λ i. ok (totals i)) w))

-- and as another answer says it
pub tells_said : {P N : ℕ} {image table : List ℕ} {A : Type 0} {question : Image → Res A} {told says : Res A → Type 0} {is_done saysDone : Type 0}
    → ((x : Res A) → told x → says x) → (saysDone → is_done) → TellsTree P N image table question told is_done → TellsTree P N image table question says saysDone
tells_said {question = question} t d k = record { tells = λ w. t (question w.reading) (k.tells w); formed = λ x. k.formed (d x) }
