-- Of each grant, whether it permits all accesses so far.
use Rattle.std.specs.Prelude.{◌&&◌, List, Option, Some, None, if◌then◌else◌}
use Rattle.wedge_base.specs.declared.rights.Right.TheVariants as right
use Rattle.wedge_base.specs.Rights.{read_bit, append_bit}
use Rattle.trace_form.specs.declared.words.Kind.{Kind}
use Rattle.trace_form.specs.declared.words.Mode.{Mode}
use Rattle.trace_form.specs.Grammar.{TraceRecord}
use Rattle.cb_analyze.specs.declared.grants.ItemGrant.{ItemGrant}
use Rattle.cb_analyze.specs.declared.grants.ItemGrant.TheVariants as grant
use Rattle.cb_analyze.specs.declared.fitting.Fitting.{Fitting}
use Rattle.cb_analyze.specs.Grants.{permits, permits_all, both_bits}

abbrev pub fitting_of : List TraceRecord → Fitting
fitting_of rs = record {
  cow = permits_all rs (grant.Tag right.Cow);
  read = permits_all rs (grant.Tag right.Read);
  read_write = permits_all rs (grant.Tag right.ReadWrite);
  fd_read = permits_all rs (grant.Fd read_bit);
  fd_append = permits_all rs (grant.Fd append_bit);
  fd_both = permits_all rs (grant.Fd both_bits);
  gate = permits_all rs grant.Gate;
}

-- those that permit one access more
abbrev pub with_use : Fitting → Kind → Mode → Fitting
with_use f k m = record {
  cow = f.cow && permits (grant.Tag right.Cow) k m;
  read = f.read && permits (grant.Tag right.Read) k m;
  read_write = f.read_write && permits (grant.Tag right.ReadWrite) k m;
  fd_read = f.fd_read && permits (grant.Fd read_bit) k m;
  fd_append = f.fd_append && permits (grant.Fd append_bit) k m;
  fd_both = f.fd_both && permits (grant.Fd both_bits) k m;
  gate = f.gate && permits grant.Gate k m;
}

-- the lowest of them
abbrev pub lowest_fitting : Fitting → Option ItemGrant
lowest_fitting f =
    if f.cow then Some (grant.Tag right.Cow)
    else (if f.read then Some (grant.Tag right.Read)
    else (if f.read_write then Some (grant.Tag right.ReadWrite)
    else (if f.fd_read then Some (grant.Fd read_bit)
    else (if f.fd_append then Some (grant.Fd append_bit)
    else (if f.fd_both then Some (grant.Fd both_bits)
    else (if f.gate then Some grant.Gate
    else None))))))
