-- What opens and answers a script, as closures.
use Rattle.std.specs.Prelude.{ℕ, ◌≡◌, ◌+◌, ◌^◌, ◌≤◌, ◌++◌, ◌∷◌, [], List, length, map, ⊤}
use Rattle.script_rounds.specs.Entries.{AreItemsOf, Entry}
use Rattle.script_rounds.specs.Fits.{ItemsFit}
use Rattle.script_rounds.specs.RoundReads.{Rise, item_line}
use Rattle.script_rounds.specs.Terms.{Terms}
use Rattle.script_rounds.specs.declared.item.Item.{Item}

-- it may always go on
abbrev pub Always : {A : Type 0} → A → ℕ → Type 0
Always answering lines = ⊤

module _ {A : Type 0} (terms : A → Terms) (goes : A → ℕ → Type 0) (behind : A → List (List Entry) → List ℕ → Type 0) where
  -- it stands behind no rounds of a script under these terms
  pub record IsOpened (of : Terms) (answering : A) : Type 0 where
    pub is_under : terms answering ≡ of
    pub ready : goes answering 0
    pub stands : behind answering [] []

  -- it may be given a round: its items are read under the same terms, their lines rise, and there are few of them
  pub record MayAnswer (answering : A) (items : List Item) : Type 0 where
    pub fit : ItemsFit (terms answering) items
    pub from : ℕ
    pub to : ℕ
    pub rise : Rise from to (map item_line items)
    pub lines : ℕ
    pub ready : goes answering lines
    pub few : lines + length items + 1 ≤ 2 ^ 37

  -- it has answered a round by a text
  pub record HasAnswered (old : A) (items : List Item) (new : A) (text : List ℕ) : Type 0 where
    pub is_under : terms new ≡ terms old
    pub ready : (lines : ℕ) → goes old lines → goes new (lines + length items + 1)
    pub stands : (entries : List Entry) (rounds : List (List Entry)) (before : List ℕ) → AreItemsOf entries items → behind old rounds before → behind new (rounds ++ entries ∷ []) (before ++ text)
