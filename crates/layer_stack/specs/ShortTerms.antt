-- Terms in less memory.
use Rattle.layer_stack.specs.Places.{term_of}
use Rattle.layer_stack.specs.declared.place.TermKey.{TermKey}
use Rattle.layer_stack.specs.declared.short_term.Packed.{Packed}
use Rattle.layer_stack.specs.declared.short_term.Packed.TheVariants.{Id, Word}
use Rattle.uni_base.specs.declared.edge.Key.TheVariants as key

-- the term that it stands for
abbrev pub told : Packed → TermKey
told (Id type_no id) = term_of type_no (key.Id id)
told (Word type_no word) = term_of type_no (key.Word word.value)
