-- What a run asks of a site in memory.
use Rattle.qls_site.specs.Disk.{IsQuiet}
use Rattle.qls_memsite.specs.declared.memory.MemSite.{MemSite}
use Rattle.qls_memsite.specs.Memory.{content_of}

-- nothing on it is pending
abbrev pub Rests : MemSite → Type 0
Rests m = IsQuiet (content_of m).now.disk
