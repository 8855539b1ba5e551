-- What the lines of a script are read under.
use Rattle.uni_base.specs.declared.limits.Limits.{Limits}
use Rattle.uni_schema.specs.Schema.{Declarations}

-- limits, and what the header declares
pub record Terms : Type 0 where
  pub limits : Limits
  pub schema : Declarations

abbrev pub under : Limits → Declarations → Terms
under limits schema = record { limits = limits; schema = schema }
