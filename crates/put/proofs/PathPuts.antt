-- A put by path: where the file goes, and that what is put there is the rule's.
use Rattle.std.specs.Prelude.{Err, Result, Ok}
use Rattle.refusals.specs.declared.Refusal.{Refusal}
use mathlib.Core.Path.{◌≡◌, subst}
use mathlib.Core.List.{List}
use Prim.Native.Nat.{ℕ, ◌<◌}
use lib.ListN.{get_or}
use Rattle.geometry.specs.declared.Geometry.{Geometry}
use Rattle.geometry.specs.Geometry.{Fit}
use Rattle.geometry.specs.NumberLaws.{bytes_from}
use Rattle.packet.specs.Packet.{view_of}
use Rattle.packet.specs.declared.Budget.{Budget}
use Rattle.packet.specs.Budgets.{unlimited}
use Rattle.rules.specs.Result.{ok}
use Rattle.rules.specs.Tree.{used}
use Rattle.rules.specs.Owners.{OwnerRecord}
use Rattle.rules.specs.Paths.{path_of, a_file, Target}
use Rattle.rules.specs.Put.{put_target, put}
use Rattle.owners.specs.Owned.{Represents}
use Rattle.rules.specs.Candidate.{NotReadOnly, PutFile}
use Rattle.editing_theorems.specs.PutLaws.{Asked}
use Rattle.editing_theorems.proofs.PutDone.{PutCall}
use Rattle.editing_theorems.proofs.PutCalls.{a_put_lem}
use Rattle.edit.specs.declared.NewFile.{NewFile}
use Rattle.edit.specs.OldChains.{HasOld, FreesOld}
use Rattle.edit.specs.Plans.{PlainPutting, PutsFile}
use Rattle.volume.specs.Edits.{Answered, TableOf}
use Rattle.put.specs.Places.{ItemPlace, IsPlaced, Places, PathPut}
use Rattle.put.proofs.RequestPuts as request

-- the call
abbrev pub the_put : (path bytes : List ℕ) → ((i : ℕ) → get_or path i 0 < 256) → ((i : ℕ) → get_or bytes i 0 < 256)
    → PutCall (path_of path) NotReadOnly (PutFile bytes) (put_target path) (λ _ _. bytes) a_file
the_put path bytes p b = a_put_lem path bytes (bytes_from path p) (bytes_from bytes b)

module _ (g : Geometry) (image : List ℕ) (table : List OwnerRecord) (path bytes : List ℕ) (fit : Fit g image) (T : TableOf g image table) (path_fits : (i : ℕ) → get_or path i 0 < 256) (bytes_fit : (i : ℕ) → get_or bytes i 0 < 256) where
  abbrev C : PutCall (path_of path) NotReadOnly (PutFile bytes) (put_target path) (λ _ _. bytes) a_file
  C = the_put path bytes path_fits bytes_fit

  abbrev pub asked : (x : Target) → put_target path T.tree.tree ≡ ok x → Asked g image bytes a_file
  asked x t = request.asked_here (the_put path bytes path_fits bytes_fit) g image table fit T x t

  pub table_used : (x : Target) (t : put_target path T.tree.tree ≡ ok x) → Represents table (used T.tree)
  table_used x t = request.table_used C g image table fit T x t

  module _ (r : Result NewFile Refusal) (h : Places g image path r) (budget : Budget) where
    pub refuses : (z : Refusal) → r ≡ Err z → PathPut g image path bytes budget image (Err z)
    refuses z e = request.refuses C g image table fit T budget z (λ i c. subst (λ (x : Result NewFile Refusal). IsPlaced g image (put_target path) i x) e (h i c))

    -- ---- the file at its place, the chain that it replaces free
    module _ (f : NewFile) (e : r ≡ Ok f) where
      abbrev place : ItemPlace g image (put_target path) T.tree f
      place = subst (IsPlaced g image (put_target path) T.tree) e (h T.tree T.accepted)

      pub has_old : HasOld g (view_of g image) f.replaces
      has_old = request.has_old C g image table fit T budget f place

      module _ (u : List OwnerRecord) (freed_old : FreesOld g (view_of g image) f.replaces table u) where
        pub to_put : PlainPutting g image u bytes f
        to_put = request.to_put C g image table fit T budget f place u freed_old

        pub put_at_lem : (after : List ℕ) (o : Result Budget Refusal) → PutsFile g image u bytes f budget after o → PathPut g image path bytes budget after o
        put_at_lem after o k = request.put_at_lem C g image table fit T budget f place u freed_old after o k

  module _ (budget : Budget) (b : budget ≡ unlimited) (after : List ℕ) (o : Result Budget Refusal) (h : PathPut g image path bytes budget after o) where
    pub answer_done : (left : Budget) → o ≡ Ok left → Answered image (put g path bytes image) (Ok tt) after
    answer_done left e = request.answer_done C g image table fit T budget b after o h left e

    pub answer_refused : (z : Refusal) → o ≡ Err z → Answered image (put g path bytes image) (Err z) after
    answer_refused z e = request.answer_refused C g image table fit T budget b after o h z e
