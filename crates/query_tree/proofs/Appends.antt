-- A text that is written in parts.
use Rattle.std.proofs.Common.{◌≡◌, List, ◌++◌, ap, ◌∙◌, append_assoc}

-- what a part adds, after what the parts before it added
pub appended : {A : Type 0} (start middle end before part : List A)
    → middle ≡ start ++ before → end ≡ middle ++ part → end ≡ start ++ (before ++ part)
appended start middle end before part first second =
    second ∙ ap (λ xs. xs ++ part) first ∙ append_assoc start before part
