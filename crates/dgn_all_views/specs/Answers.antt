-- What dgn_views answers, and what it leaves in the slice of views.
use Rattle.std.specs.Prelude.{ℕ, ◌≡◌, List, [], ◌∷◌, ℤ, length, Err, Ok, Result}
use Rattle.files.specs.Judge.{judge_of}
use Rattle.answers.specs.Answers.{Reply, with_room, Replied}
use Rattle.answers.specs.Besides.{besides}
use Rattle.order.specs.Calls.{reply_by}
use Rattle.dgn_all_views.specs.Views.{views_many, views_part}
use Rattle.files.specs.declared.Accepted.{Accepted}
use Rattle.refusals.specs.declared.Refusal.{Refusal}

-- how many views: none of a refused file
abbrev pub views_count : Result Accepted Refusal → ℕ → ℕ → ℕ
views_count (Err refusal) room k = 0
views_count (Ok file) room k = views_many room k file.elements

-- 15 where an element is left and no view fits; done: how many views
unfoldable pub views_reply : ℕ → List ℕ → ℕ → ℕ → Reply ℕ
views_reply dim s k room =
    let many = views_count (judge_of dim s) room k in
    reply_by (judge_of dim s) many k (many ∷ [])

-- the answer, and the slice of views, which takes them at its front where the call is done
pub record ViewsGiven (dim : ℕ) (s : List ℕ) (k : ℕ) (views : List ℤ) (out : List ℕ) (r : ℕ) (views' : List ℤ) (out' : List ℕ) : Type 0 where
  pub replied : Replied 1 (views_reply dim s k (length views)) out r out'
  pub given : views' ≡ besides (with_room 1 (views_reply dim s k (length views)) out) (views_part dim s k (views_count (judge_of dim s) (length views) k)) views
